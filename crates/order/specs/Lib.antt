pub mod Held
pub mod Gathered
