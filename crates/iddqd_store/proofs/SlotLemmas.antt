-- Lemmas on slots: what they have, the chain of the free ones, and what is found in them.
pub mod Batch
pub mod Chain
pub mod Clone
pub mod Contents
pub mod Entries
pub mod Found
pub mod FreeBefore
pub mod Here
pub mod Kept
pub mod Next
