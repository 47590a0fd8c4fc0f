pub mod Held
pub mod Ready
pub mod Laying
pub mod Growing
