pub mod Bodies
pub mod Endings
pub mod Marks
pub mod Parameters
pub mod Wholes
