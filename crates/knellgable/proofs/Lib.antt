pub mod OneAnswer
pub mod Pens
