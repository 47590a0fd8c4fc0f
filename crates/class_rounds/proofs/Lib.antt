pub mod Laws
pub mod OneRound
pub mod OneAnswer
