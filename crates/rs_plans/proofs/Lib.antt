pub mod Named
pub mod Fresh
pub mod Steps
pub mod Places
pub mod Fits
