-- A transfer: one account was written, and then another one.
use Rattle.std.specs.Prelude.{◌≡◌, ◌≢◌, ◌==◌, ℕ, Bool, List, nat_eq, [], ◌∷◌, true, false, filter, Contains, IsPermutation}
use Rattle.std.specs.List.{list_any}
use Rattle.std.proofs.Common.{arith, refl, rules, subst}
use Rattle.std.proofs.lemmas.Cmp.{nat_eq_equiv}
use Rattle.iddqd_store.proofs.CallerLemmas.{passes-listed}
use Rattle.iddqd_store.proofs.RankLemmas.Index.{Contains-here}
use Rattle.iddqd_bi.specs.Bag.{AreLawful, IsSound, Ranks, agrees, swap}
use Rattle.iddqd_bi.specs.Keys.{ranks}
use Rattle.iddqd_bi.proofs.MapLemmas.{AreLawful-ranks}
use Rattle.example_recipes.specs.contracts.accounts.AccountBiHashItem.TheImpl as item
use Rattle.example_recipes.specs.declared.accounts.Account.{Account}
use Rattle.example_recipes.proofs.Transfers.{any_there, both_written, same_found, still}

abbrev item_ranks : Ranks Account
item_ranks = ranks item.ghosts nat_eq nat_eq

laws : AreLawful item_ranks
laws = AreLawful-ranks item.ghosts nat_eq_equiv nat_eq_equiv

abbrev pub numbered : ℕ → Account → Bool
numbered n x = n == x.number

abbrev pub with : Account → ℕ → Account
with x n = record x { balance = n }

-- the account that is found is a member with the number
found : (n : ℕ) (all : List Account) (a : Account) → a ∷ [] ≡ filter (numbered n) all → Contains all a × (numbered n a ≡ true)
found n all a is = passes-listed (numbered n) all a (subst (λ l. Contains l a) is (Contains-here a []))

-- so there is one
pub is_there : (n : ℕ) (all : List Account) (a : Account) → a ∷ [] ≡ filter (numbered n) all → list_any (numbered n) all ≡ true
is_there n all a is = any_there (numbered n) all a (found n all a is).0 (found n all a is).1

same_keys : (a : Account) (n : ℕ) → agrees item_ranks a (with a n) ≡ true
same_keys a n = rw (nat_eq_equiv.refl a.number, nat_eq_equiv.refl a.holder) refl

-- what an update writes in the account that was found
pub wrote : (old new : List Account) (x a : Account) (d n : ℕ) → x ≡ a → d ≡ n → IsPermutation new (swap item_ranks old x (with x d)) →
    IsPermutation new (swap item_ranks old a (with a n))
wrote old new x a d n same is write =
    subst (λ (y : Account). IsPermutation new (swap item_ranks old y (with y n))) same
    (subst (λ m. IsPermutation new (swap item_ranks old x (with x m))) is write)

-- the first account was written, and the second is the one that is found then
module _ (from to less : ℕ) (old mid : List Account) (a b : Account) (apart : from ≢ to) (first : a ∷ [] ≡ filter (numbered from) old)
    (second : b ∷ [] ≡ filter (numbered to) old) (sound : IsSound item_ranks old) (write : IsPermutation mid (swap item_ranks old a (with a less))) where
  is_a : Contains old a × (numbered from a ≡ true)
  is_a = found from old a first

  is_b : Contains old b × (numbered to b ≡ true)
  is_b = found to old b second

  other : numbered to a ≡ false
  other = search (rules, is_a.1, apart)

  pub there : list_any (numbered to) mid ≡ true
  there =
      let still_b = still item_ranks laws (omega arith) (numbered to) old mid a (with a less) b sound is_a.0 is_b.0 other other is_b.1 write in
      any_there (numbered to) mid b still_b is_b.1

  pub again : (x : Account) → x ∷ [] ≡ filter (numbered to) mid → x ≡ b
  again x now = same_found item_ranks laws (omega arith) (numbered to) old mid a (with a less) b sound is_a.0 is_b.0 other other is_b.1 write x now second

  pub both : (new : List Account) (more : ℕ) → IsPermutation new (swap item_ranks mid b (with b more)) →
      IsPermutation (a ∷ b ∷ new) (with a less ∷ with b more ∷ old)
  both new more last =
      both_written item_ranks laws (omega arith) (numbered to) old mid a (with a less) b sound is_a.0 is_b.0 other other is_b.1 write
      (same_keys a less) new (with b more) last
