pub mod Made
pub mod Over
