mod Rows
mod Saying
mod WorkedTold
