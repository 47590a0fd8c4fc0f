pub mod Writing
pub mod Holding
pub mod Answering
pub mod TwoAnswers
pub mod Tabling
pub mod Exits
