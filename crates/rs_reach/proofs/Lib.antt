pub mod Called
pub mod Found
mod Kept
pub mod Numbered
mod Numbers
mod Onward
pub mod Round
pub mod Steps
mod Together
