pub mod Rows
pub mod Held
pub mod Certified
pub mod Complete
pub mod Naming
pub mod Clauses
pub mod OfOrder
pub mod Verdicts
