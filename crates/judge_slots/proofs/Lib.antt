pub mod Places
pub mod Totals
