pub mod Tests
pub mod Loops
pub mod Arrays
pub mod Bits
pub mod Products
