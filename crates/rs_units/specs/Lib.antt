pub mod Laws
pub mod Members
pub mod Ready
pub mod Units
