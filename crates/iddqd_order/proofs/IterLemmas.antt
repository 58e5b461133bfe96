-- The first and the last of the entries that an iterator has left.
use Rattle.std.proofs.Common.{◌≡◌, ℕ, ◌+◌, ◌-◌, ◌≤◌, List, [], ◌∷◌, ◌++◌, length, All, sym, ap, ◌∙◌, arith, append_assoc, Option, Some, None}
use Rattle.std.specs.Prelude.{IfSome}
use Rattle.std.specs.Option.{option_map}
use Rattle.std.proofs.lemmas.List.{append-nil, length-append, map-append, nil_from_length}
use Rattle.std.proofs.lemmas.List.Elements.{All-pop}
use Rattle.iddqd_order.specs.Row.{BlockValue, entries_of, entry_lists, line}
use Rattle.iddqd_order.proofs.LineLemmas.{line-append}

module _ {E : Type 0} where
  pub line-last : (blocks : List (BlockValue E)) (b : BlockValue E) → line (entry_lists (blocks ++ b ∷ [])) ≡ line (entry_lists blocks) ++ b.entries
  line-last blocks b =
      ap line (map-append entries_of blocks (b ∷ [])) ∙ line-append (entry_lists blocks) (b.entries ∷ []) ∙ ap (λ (q : List E). line (entry_lists blocks) ++ q) (append-nil b.entries)

  pub first_left : (front : List E) (blocks rest : List (BlockValue E)) (back : List E) (b : BlockValue E) (e : E) (left : List E) → length front ≡ 0 → blocks ≡ b ∷ rest → b.entries ≡ e ∷ left
      → front ++ (line (entry_lists blocks) ++ back) ≡ e ∷ (left ++ (line (entry_lists rest) ++ back))
  first_left front blocks rest back b e left none parts first =
      ap (λ (q : List E). q ++ (line (entry_lists blocks) ++ back)) (nil_from_length front none)
      ∙ ap (λ (q : List (BlockValue E)). line (entry_lists q) ++ back) parts
      ∙ ap (λ (q : List E). (q ++ line (entry_lists rest)) ++ back) first
      ∙ ap (λ (q : List E). e ∷ q) (append_assoc left (line (entry_lists rest)) back)

  pub last_left : (front : List E) (blocks rest : List (BlockValue E)) (back : List E) (b : BlockValue E) (e : E) (left : List E) → length back ≡ 0 → blocks ≡ rest ++ b ∷ [] → b.entries ≡ left ++ e ∷ []
      → front ++ (line (entry_lists blocks) ++ back) ≡ (front ++ (line (entry_lists rest) ++ left)) ++ e ∷ []
  last_left front blocks rest back b e left none parts last =
      ap (λ (q : List E). front ++ (line (entry_lists blocks) ++ q)) (nil_from_length back none)
      ∙ ap (λ (q : List E). front ++ q) (append-nil (line (entry_lists blocks)))
      ∙ ap (λ (q : List (BlockValue E)). front ++ line (entry_lists q)) parts
      ∙ ap (λ (q : List E). front ++ q) (line-last rest b)
      ∙ ap (λ (q : List E). front ++ (line (entry_lists rest) ++ q)) last
      ∙ ap (λ (q : List E). front ++ q) (sym (append_assoc (line (entry_lists rest)) left (e ∷ [])))
      ∙ sym (append_assoc front (line (entry_lists rest) ++ left) (e ∷ []))

-- the number of entries in the blocks between the ends, if it is known
left_known : (middle : Option ℕ) (all len rest : ℕ) → all ≡ len + rest → IfSome middle (λ n. n ≡ all) → IfSome (option_map (λ (n : ℕ). n - len) middle) (λ n. n ≡ rest)
left_known None all len rest sum known = tt
left_known (Some n) all len rest sum known = omega (arith, sum, known)

covers : (middle : Option ℕ) (all len rest : ℕ) → all ≡ len + rest → IfSome middle (λ n. n ≡ all) → IfSome middle (λ n. len ≤ n)
covers None all len rest sum known = tt
covers (Some n) all len rest sum known = omega (arith, sum, known)

module _ {E : Type 0} (middle : Option ℕ) (blocks rest : List (BlockValue E)) (b : BlockValue E) (len : ℕ) where
  sum_first : blocks ≡ b ∷ rest → len ≡ length b.entries → length (line (entry_lists blocks)) ≡ len + length (line (entry_lists rest))
  sum_first parts is = omega (arith, ap (λ (q : List (BlockValue E)). length (line (entry_lists q))) parts, length-append b.entries (line (entry_lists rest)), is)

  sum_last : blocks ≡ rest ++ b ∷ [] → len ≡ length b.entries → length (line (entry_lists blocks)) ≡ len + length (line (entry_lists rest))
  sum_last parts is = omega (arith, ap (λ (q : List (BlockValue E)). length (line (entry_lists q))) parts, ap length (line-last rest b), length-append (line (entry_lists rest)) b.entries, is)

  pub middle_some : blocks ≡ b ∷ rest → len ≡ length b.entries → IfSome middle (λ n. n ≡ length (line (entry_lists blocks))) → IfSome middle (λ n. len ≤ n)
  middle_some parts is known = covers middle (length (line (entry_lists blocks))) len (length (line (entry_lists rest))) (sum_first parts is) known

  pub middle_first : blocks ≡ b ∷ rest → len ≡ length b.entries → IfSome middle (λ n. n ≡ length (line (entry_lists blocks))) → IfSome (option_map (λ (n : ℕ). n - len) middle) (λ n. n ≡ length (line (entry_lists rest)))
  middle_first parts is known = left_known middle (length (line (entry_lists blocks))) len (length (line (entry_lists rest))) (sum_first parts is) known

  pub middle_some_last : blocks ≡ rest ++ b ∷ [] → len ≡ length b.entries → IfSome middle (λ n. n ≡ length (line (entry_lists blocks))) → IfSome middle (λ n. len ≤ n)
  middle_some_last parts is known = covers middle (length (line (entry_lists blocks))) len (length (line (entry_lists rest))) (sum_last parts is) known

  pub middle_last : blocks ≡ rest ++ b ∷ [] → len ≡ length b.entries → IfSome middle (λ n. n ≡ length (line (entry_lists blocks))) → IfSome (option_map (λ (n : ℕ). n - len) middle) (λ n. n ≡ length (line (entry_lists rest)))
  middle_last parts is known = left_known middle (length (line (entry_lists blocks))) len (length (line (entry_lists rest))) (sum_last parts is) known

pub All-front : {X : Type 0} (P : X → Type 0) (xs ys : List X) (y : X) → xs ≡ ys ++ y ∷ [] → All P xs → All P ys
All-front P xs ys y is all = (All-pop P xs ys (Some y) is all).0
