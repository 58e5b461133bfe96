pub mod Loading
pub mod Replaced
