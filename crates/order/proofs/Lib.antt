pub mod Cases
pub mod Columns
pub mod Firsts
pub mod Takes
pub mod Walks
pub mod Settles
pub mod Fields
