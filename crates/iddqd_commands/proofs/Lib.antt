pub mod EntrySteps
pub mod Runs
pub mod Steps
