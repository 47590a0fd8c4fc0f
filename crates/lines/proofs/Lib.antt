pub mod Puts
pub mod Adding
pub mod Digits
pub mod Records
pub mod Said
pub mod Season
