mod Ended
mod Given
pub mod Lists
mod Settling
mod Stuck
