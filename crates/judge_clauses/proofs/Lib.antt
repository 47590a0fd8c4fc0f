pub mod Tell
pub mod Ranges
pub mod OneAnswer
