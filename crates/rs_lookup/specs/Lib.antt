pub mod Env
pub mod Keys
pub mod Orders
pub mod Places
pub mod Ready
pub mod Tracks
