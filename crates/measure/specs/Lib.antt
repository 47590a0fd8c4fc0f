pub mod Arrays
pub mod Measure
pub mod Held
