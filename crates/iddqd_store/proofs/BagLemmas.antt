-- Lemmas on bags: which are sound, what each step leaves, what keys find in them, and when two are the same.
pub mod Building
pub mod Calling
pub mod Cancelled
pub mod Differ
pub mod Differing
pub mod Entries
pub mod Exchanges
pub mod KeyTests
pub mod Over
pub mod Partners
pub mod Same
pub mod SameTest
pub mod Sound
pub mod Steps
pub mod Theory
pub mod Unique
