-- A table as the index of a rank: what it finds, how it is filled, kept and copied.
pub mod ByHash
pub mod Copied
pub mod Costs
pub mod Displaced
pub mod Exchanged
pub mod Fill
pub mod Index
pub mod Invariant
pub mod Lookups
pub mod Placing
pub mod Probes
pub mod Search
pub mod Walks
