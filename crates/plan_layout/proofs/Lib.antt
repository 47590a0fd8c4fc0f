pub mod Runs
pub mod Shares
pub mod Arrays
pub mod SameTables
