pub mod InOrder
pub mod Lookups
pub mod ScopeLemmas
