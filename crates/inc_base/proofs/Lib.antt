pub mod Appending
pub mod Base36Lemmas
