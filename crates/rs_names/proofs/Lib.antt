pub mod Bodies
mod Counted
pub mod NamedItems
pub mod NamesOf
pub mod Steps
