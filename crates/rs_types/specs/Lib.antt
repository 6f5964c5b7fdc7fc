pub mod Answered
pub mod State
pub mod Types
