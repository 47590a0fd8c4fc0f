pub mod Inserts
pub mod Laws
