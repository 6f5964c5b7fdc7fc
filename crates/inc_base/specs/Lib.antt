pub mod Texts
pub mod Meters
pub mod Outside
pub mod Base36
pub mod Base36Laws
pub mod Kept
