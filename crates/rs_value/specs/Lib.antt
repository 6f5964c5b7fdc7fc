pub mod Chains
pub mod Value
