pub mod Steps
pub mod Chunks
pub mod Walks
pub mod Settles
pub mod Layings
pub mod Once
