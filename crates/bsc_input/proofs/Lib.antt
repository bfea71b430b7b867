mod Cut
mod Given
mod Fed
