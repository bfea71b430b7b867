mod Later
mod Bound
mod Defined
mod Statuses
mod Ended
mod Ran
mod Lives
