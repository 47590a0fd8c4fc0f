pub mod Laying
pub mod Walking
