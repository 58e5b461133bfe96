pub mod EntryReplies
pub mod Step
