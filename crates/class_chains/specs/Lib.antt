pub mod Chains
pub mod Fills
