pub mod Driving
pub mod Seeing
pub mod Visiting
pub mod Publishing
pub mod Leaving
pub mod Building
