pub mod Written
pub mod Held
pub mod Plan
pub mod Kinds
