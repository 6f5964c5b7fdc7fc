pub mod Calls
pub mod Cycles
pub mod Dead
pub mod Laws
pub mod Places
pub mod Reached
pub mod Search
