-- What a map ends as, if a `&mut` to the data of an item is returned.
use Rattle.std.specs.Prelude.{ℕ, Bool, Option}
use Rattle.std.specs.Borrow.{Lends, LendsIf, Fml, RattleType, MutBor}
use Rattle.std.specs.HashMap.Lent.{HashMembers}
use Rattle.std.specs.declared.hash.Hasher as hasher
use Rattle.std.specs.declared.hash.BuildHasher as builder
use Rattle.iddqd_store.specs.Map.{Map}
use Rattle.iddqd_bi.specs.declared.item.BiHashItem as item
use Rattle.iddqd_bi.specs.InsertErrors.{map_row}
use Rattle.iddqd_store.specs.Map.Written.{map_with, map_with_if, put_where}

module _ (T S K1 K2 H : RattleType) (of : item.Ghosts T.Denot K1.Denot K2.Denot)
    (keys1 : HashMembers K1.Denot) (keys2 : HashMembers K2.Denot)
    (build : builder.Ghosts S.Denot H.Denot) (hashes : hasher.Ghosts H.Denot) where
  abbrev whole_row : RattleType
  whole_row = map_row T S K1 K2 H of keys1 keys2 build hashes

  module _ (D : RattleType) (put : T.Denot → D.Denot → T.Denot) where
    abbrev pub lends_data : MutBor (Map T.Denot S.Denot) → ℕ → MutBor D.Denot → Fml
    lends_data m slot r = Lends whole_row D m r (λ d. map_with m.now slot (λ x. put x d))

    abbrev pub lends_data_if : MutBor (Map T.Denot S.Denot) → Option ℕ → Option (MutBor D.Denot) → Fml
    lends_data_if m slot r = LendsIf whole_row D m r (λ d. map_with_if m.now slot (λ x. put x d)) m.now

    -- What is written through `r` is the data of each item that passes the test, and nothing else changes. If there is
    -- no `r`, the map ends as it was.
    -- Example: If d is written, and the item a passes the test, the map has `put a d` in its place.
    abbrev pub lends_data_where : (T.Denot → Bool) → MutBor (Map T.Denot S.Denot) → Option (MutBor D.Denot) → Fml
    lends_data_where test m r = LendsIf whole_row D m r (put_where put test m.now) m.now
