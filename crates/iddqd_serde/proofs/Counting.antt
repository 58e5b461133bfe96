-- One item more was read, and items are written behind their keys.
use Rattle.std.proofs.Common.{◌≡◌, ℕ, ◌+◌, suc, List, [], ◌∷◌, subst, sym, ap, arith}
use Rattle.std.specs.Prelude.{map}
use Rattle.serde.specs.Event.{Log, WritesEach}
use Rattle.iddqd_store.specs.Collection.{VisitsEach}
use Rattle.iddqd_serde.specs.Reading.{HasRead}

pub HasRead-more : {Reader : Type 0} (begins follows : Reader → Reader → Type 0) (n more : ℕ) (old before at new : Reader)
    → more ≡ n + 1 → HasRead begins follows n old before → follows before at → HasRead begins follows more old new
HasRead-more begins follows n more old before at new same read found =
    let next : more ≡ suc n = omega (arith, same) in
    subst (λ k. HasRead begins follows k old new) (sym next) (before, at, read, found)

-- what is written of each item's image is written of the list of images
pub WritesEach-map : {A B : Type 0} (w : B → Log → Log → Type 0) (f : A → B) (xs : List A) (old new : Log)
    → WritesEach (λ x. w (f x)) xs old new → WritesEach w (map f xs) old new
WritesEach-map w f [] old new h = h
WritesEach-map w f (x ∷ xs) old new h = (h.0, h.1, WritesEach-map w f xs h.0 new h.2)

-- what visits of a serializer write is what is written of the list
pub WritesEach-visits : {A Out : Type 0} (w : A → Log → Log → Type 0) (written : Out → Log) (xs : List A) (old new : Out)
    → VisitsEach (λ x before after. w x (written before) (written after)) xs old new → WritesEach w xs (written old) (written new)
WritesEach-visits w written [] old new h = ap written h
WritesEach-visits w written (x ∷ xs) old new h = (written h.0, h.1, WritesEach-visits w written xs h.0 new h.2)
