pub mod Laws
pub mod Told
pub mod Records
pub mod OneAnswer
