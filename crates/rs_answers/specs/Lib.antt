pub mod Forms
pub mod Fits
pub mod Answered
