pub mod Indexed
pub mod Laws
pub mod Names
pub mod Resolved
pub mod State
