pub mod Rounds
pub mod Candidates
