-- Made by tests/widths from crates/iddqd_bi/proofs/Lib.antt: change that file.
pub mod EntryLemmas
pub mod Iterating
pub mod MapLemmas
pub mod RefLemmas
-- what callers cite
pub use Rattle.iddqd_store.proofs.CallerLemmas
