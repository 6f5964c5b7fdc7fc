pub mod Values
pub mod Tellings
pub mod Among
pub mod Roots
pub mod Trees
pub mod Reaches
pub mod Anew
