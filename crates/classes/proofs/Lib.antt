pub mod Rows
pub mod OnePhase
pub mod OfOrder
pub mod OverTop
pub mod OneAnswer
pub mod Ranks
