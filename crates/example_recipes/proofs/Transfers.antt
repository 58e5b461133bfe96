-- What a transfer cites: an item was written, and then another one, which is the one that a test finds.
use Rattle.std.specs.Prelude.{◌≡◌, ◌<◌, Bool, true, false, List, [], ◌∷◌, filter, length, Contains, IsPermutation}
use Rattle.std.specs.List.{list_any}
use Rattle.std.proofs.Common.{arith, refl, subst, sym, ◌∙◌}
use Rattle.std.proofs.lemmas.List.Sorted.{Contains-permutation, IsPermutation-cons, IsPermutation-middle, IsPermutation-sym, IsPermutation-trans}
use Rattle.iddqd_store.proofs.BagLemmas.Same.{taken_out}
use Rattle.iddqd_store.proofs.BagLemmas.Sound.{Contains-filter, IsSound-IsPermutation}
use Rattle.iddqd_store.proofs.BagLemmas.Theory.{IsSound-swap, swap-is}
use Rattle.iddqd_store.proofs.BagLemmas.Unique.{any_listed, some_item}
use Rattle.iddqd_store.proofs.CallerLemmas.{passes-listed}
use Rattle.iddqd_store.proofs.RankLemmas.Index.{Contains-cons, Contains-here}
use Rattle.iddqd_bi.specs.Bag.{AreLawful, IsSound, Ranks, agrees, swap}
use Rattle.example_recipes.proofs.OrderLemmas.{only_member}
use Rattle.example_recipes.proofs.Undone.{still_there}

some_there : {T : Type 0} (xs : List T) (x : T) → Contains xs x → some_item xs ≡ true
some_there [] x there = absurd (omega (arith, there.1))
some_there (y ∷ xs) x there = refl

-- if a member passes, the map says that there is one
pub any_there : {T : Type 0} (test : T → Bool) (xs : List T) (x : T) → Contains xs x → test x ≡ true → list_any test xs ≡ true
any_there test xs x there passes = any_listed test xs ∙ some_there (filter test xs) x (Contains-filter test xs x passes there)

module _ {T : Type 0} (ranks : Ranks T) (laws : AreLawful ranks) (some : 0 < length ranks) (test : T → Bool) (old mid : List T) (a written b : T)
    (sound : IsSound ranks old) (there : Contains old a) (its : Contains old b) (fails : test a ≡ false) (fails_then : test written ≡ false)
    (passes : test b ≡ true) (first : IsPermutation mid (swap ranks old a written)) where
  out : (rest : List T) × IsPermutation old (a ∷ rest)
  out = taken_out old a there

  after : IsPermutation mid (written ∷ out.0)
  after = IsPermutation-trans _ _ _ first (swap-is ranks laws some old out.0 a written sound out.1)

  -- the other item is still there
  pub still : Contains mid b
  still =
      Contains-permutation (written ∷ out.0) mid b (IsPermutation-sym _ _ after)
      (Contains-cons written b out.0 (still_there test old out.0 b a out.1 its passes fails))

  -- and it is the one that is found
  pub same_found : (x : T) → x ∷ [] ≡ filter test mid → b ∷ [] ≡ filter test old → x ≡ b
  same_found x now before =
      let member = passes-listed test mid x (subst (λ l. Contains l x) now (Contains-here x [])) in
      let left = still_there test mid out.0 x written after member.0 member.1 fails_then in
      let was = Contains-permutation (a ∷ out.0) old x (IsPermutation-sym _ _ out.1) (Contains-cons a x out.0 left) in
      only_member x b (subst (λ l. Contains l x) (sym before) (Contains-filter test old x member.1 was))

  -- if it is written too, both were
  pub both_written : agrees ranks a written ≡ true → (new : List T) (last : T) → IsPermutation new (swap ranks mid b last) → IsPermutation (a ∷ b ∷ new) (written ∷ last ∷ old)
  both_written same new last second =
      let sound_mid = IsSound-IsPermutation ranks laws (swap ranks old a written) mid (IsPermutation-sym _ _ first) (IsSound-swap ranks laws old a written same sound) in
      let left = taken_out mid b still in
      let new_is = IsPermutation-trans _ _ _ second (swap-is ranks laws some mid left.0 b last sound_mid left.1) in
      let one = IsPermutation-cons a _ _ (IsPermutation-cons b _ _ new_is) in
      let two = IsPermutation-cons a _ _ (IsPermutation-middle (b ∷ []) last left.0) in
      let three = IsPermutation-middle (a ∷ []) last (b ∷ left.0) in
      let four = IsPermutation-cons last _ _ (IsPermutation-cons a _ _ (IsPermutation-sym _ _ left.1)) in
      let five = IsPermutation-cons last _ _ (IsPermutation-cons a _ _ after) in
      let six = IsPermutation-middle (last ∷ a ∷ []) written out.0 in
      let seven = IsPermutation-cons written _ _ (IsPermutation-cons last _ _ (IsPermutation-sym _ _ out.1)) in
      IsPermutation-trans _ _ _ one (IsPermutation-trans _ _ _ two
      (IsPermutation-trans _ _ _ three (IsPermutation-trans _ _ _ four (IsPermutation-trans _ _ _ five (IsPermutation-trans _ _ _ six seven)))))
