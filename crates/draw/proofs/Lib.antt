pub mod Walks
pub mod Seconds
pub mod Points
pub mod Drawings
pub mod Once
