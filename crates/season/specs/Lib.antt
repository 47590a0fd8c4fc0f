pub mod Held
pub mod Adding
