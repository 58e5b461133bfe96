-- Made by tests/widths from crates/iddqd_bi/specs/Lib.antt: change that file.
pub mod Entries
pub mod InsertErrors
pub mod IterMuts
pub mod Keys
pub mod Lent
pub mod Mismatch
pub mod RefMuts
pub mod Rekeyed
-- The clauses of the map cite these words of the store.
pub use Rattle.iddqd_store.specs.Bag
pub use Rattle.iddqd_store.specs.Bag.Building
pub use Rattle.iddqd_store.specs.Bag.Calling
pub use Rattle.iddqd_store.specs.Bag.Storing
pub use Rattle.iddqd_store.specs.Callers
pub use Rattle.iddqd_store.specs.Differing
pub use Rattle.iddqd_store.specs.Map
pub use Rattle.iddqd_store.specs.Map.Extracting
pub use Rattle.iddqd_store.specs.Map.State
pub use Rattle.iddqd_store.specs.Map.Walk
pub use Rattle.iddqd_store.specs.Map.Written
pub use Rattle.iddqd_store.specs.Queries
pub use Rattle.iddqd_store.specs.Rank
pub use Rattle.iddqd_store.specs.Rank.All
pub use Rattle.iddqd_store.specs.Slots.Found
pub use Rattle.iddqd_store.specs.Table
