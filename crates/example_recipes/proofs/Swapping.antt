-- Two orders that change places: one leaves, the other takes its place, and the first comes back. None of the inserts fails.
use Rattle.std.specs.Prelude.{◌≡◌, ◌≢◌, ◌==◌, ◌<◌, ◌≤◌, ℕ, Bool, nat_eq, [], ◌∷◌, true, false, filter, length}
use Rattle.std.specs.Prelude.{is_err, Contains, IfErr, IfOk, IsPermutation, Result}
use Rattle.std.proofs.Common.{arith, rules, subst}
use Rattle.std.proofs.lemmas.Cmp.{nat_eq_equiv}
use Rattle.std.proofs.lemmas.List.Sorted.{length_permutation}
use Rattle.iddqd_store.proofs.CallerLemmas.{passes-listed}
use Rattle.iddqd_store.proofs.RankLemmas.Index.{Contains-here}
use Rattle.iddqd_bi.specs.Bag.{AreLawful, IsSound, Ranks, conflicts_of}
use Rattle.iddqd_bi.specs.Keys.{ranks}
use Rattle.iddqd_bi.specs.Map.{Map, bag}
use Rattle.iddqd_bi.specs.Rank.{agree}
use Rattle.iddqd_bi.specs.Rekeyed.{PutsInPlace, TellsWhyNot}
use Rattle.iddqd_bi.specs.declared.error.NotReplaced.{NotReplaced}
use Rattle.iddqd_bi.proofs.MapLemmas.{AreLawful-ranks}
use Rattle.example_recipes.specs.contracts.orders.OrderBiHashItem.TheImpl as item
use Rattle.example_recipes.specs.declared.orders.Order.{Order}
use Rattle.example_recipes.proofs.OrderLemmas.{found_before, ok_both}
use Rattle.example_recipes.proofs.Undone.{free_for_back, moved_in, still_there}

abbrev item_ranks : Ranks Order
item_ranks = ranks item.ghosts nat_eq nat_eq

laws : AreLawful item_ranks
laws = AreLawful-ranks item.ghosts nat_eq_equiv nat_eq_equiv

abbrev pub numbered : ℕ → Order → Bool
numbered n o = n == o.number

abbrev pub moved_of : Order → Order → Order
moved_of a b = record { number = a.number; place = b.place; price = a.price }

abbrev same_number : Order → Order → Bool
same_number = agree (λ (o : Order). o.number) nat_eq

abbrev same_place : Order → Order → Bool
same_place = agree (λ (o : Order). o.place) nat_eq

-- both orders were found, and then `b` left
module _ {S : Type 0} (one other : ℕ) (old mid : Map Order S) (a b : Order) (apart : one ≢ other)
    (first : a ∷ [] ≡ filter (numbered one) (bag old)) (second : b ∷ [] ≡ filter (numbered other) (bag old))
    (sound : IsSound item_ranks (bag old)) (left : IsPermutation (bag old) (b ∷ bag mid)) where
  is_a : Contains (bag old) a × (numbered one a ≡ true)
  is_a = passes-listed (numbered one) (bag old) a (subst (λ l. Contains l a) first (Contains-here a []))

  is_b : Contains (bag old) b × (numbered other b ≡ true)
  is_b = passes-listed (numbered other) (bag old) b (subst (λ l. Contains l b) second (Contains-here b []))

  not_b : numbered one b ≡ false
  not_b = search (rules, is_b.1, apart)

  there : Contains (bag mid) a
  there = still_there (numbered one) (bag old) (bag mid) a b left is_a.0 is_a.1 not_b

  -- the place of `b` is free then, so that `a` can be moved there
  pub moves : (r : Result Order (NotReplaced Order)) → IfErr r (λ e. TellsWhyNot item_ranks (numbered one) (bag mid) (moved_of a b) e) → is_err r ≡ false
  moves r why =
      moved_in same_number same_place laws (numbered one) (bag old) (bag mid) a b (moved_of a b) r
      (λ x e. search (rules, is_a.1, e)) sound left there is_a.1 (nat_eq_equiv.refl b.place) why

  -- the number of `b` and the place of `a` are free then, and there is room
  pub comes_back : {E P : Type 0} (between : Map Order S) (r : Result Order E) → is_err r ≡ false →
      IfOk r (λ x. x ∷ [] ≡ filter (numbered one) (bag mid)) → IfOk r (λ x. PutsInPlace mid x (moved_of a b) between) →
      length (bag old) ≤ old.capacity → mid.capacity ≡ old.capacity →
      (conflicts_of item_ranks (bag between) (moved_of b a) ≡ [] → length (bag between) < between.capacity → P) → P
  comes_back between r done found put fits same_room granted =
      let it = ok_both r done found put in
      let same : it.0 ≡ a = found_before (numbered one) (bag old) (bag mid) it.0 a b left it.1 first in
      let items : IsPermutation (a ∷ bag between) (moved_of a b ∷ bag mid) =
      subst (λ (x : Order). IsPermutation (x ∷ bag between) (moved_of a b ∷ bag mid)) same it.2.items in
      let free = free_for_back same_number same_place laws (bag old) (bag mid) (bag between) a b (moved_of a b) (moved_of b a)
      sound left items there (nat_eq_equiv.refl b.number) (nat_eq_equiv.refl a.place)
      (search (rules, is_a.1, not_b)) (nat_eq_equiv.refl b.place) in
      granted free (omega (arith, fits, same_room, it.2.same_room, length_permutation _ _ left, length_permutation _ _ items))
