pub mod BagLemmas
pub mod CallerLemmas
pub mod CountRule
pub mod MapLemmas
pub mod Plain
pub mod RankLemmas
pub mod SlotLemmas
pub mod TableLemmas
