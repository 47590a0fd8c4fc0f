pub mod OneMore
pub mod Orders
pub mod Adding
pub mod Once
