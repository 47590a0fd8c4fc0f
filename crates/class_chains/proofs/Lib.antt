pub mod Cells
pub mod Laws
pub mod OneAnswer
pub mod Searches
