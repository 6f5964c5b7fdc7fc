pub mod Calls
pub mod Errors
mod Images
mod Linking
pub mod Lists
mod Lowered
pub mod Makes
pub mod Members
mod Names
mod Objects
pub mod Places
mod Symbols
