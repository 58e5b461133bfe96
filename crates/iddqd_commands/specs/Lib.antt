pub mod Reply
pub mod Run
pub mod Step
pub mod Values
