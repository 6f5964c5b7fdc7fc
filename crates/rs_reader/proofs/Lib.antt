pub mod Steps
pub mod Once
pub mod Nested
pub mod Exits
pub mod Sighted
pub mod Makes
pub mod Ends
