pub mod Places
pub mod Pieces
pub mod Scan
pub mod Tokens
pub mod Steps
pub mod Faults
pub mod Answered
pub mod Ranges
