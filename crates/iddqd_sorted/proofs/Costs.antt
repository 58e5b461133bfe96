-- What searches cost at less room.
use Rattle.std.proofs.Common.{◌≡◌, ◌≤◌, ℕ, List, [], ◌∷◌, Option, map, refl, arith}
use Rattle.iddqd_store.specs.Rank.{Costs, walks_within}
use Rattle.iddqd_store.specs.Rank.All.{AreSearched}
use Rattle.iddqd_store.specs.SlotMap.{SearchesEach, SearchesFirst}
use Rattle.iddqd_store.proofs.RankLemmas.Costs.{SearchCosts-room}

module _ {T : Type 0} (bag : List T) (less room : ℕ) (below : less ≤ room) where
  pub AreSearched-room : (hashes : List (T → ℕ)) (hs : List ℕ) (answers : List (Option ℕ)) (before after : Costs) → AreSearched hashes bag room hs answers before after → AreSearched hashes bag less hs answers before after
  AreSearched-room [] [] [] before after all = all
  AreSearched-room [] [] (r ∷ rs) before after all = absurd all
  AreSearched-room [] (h ∷ hs) rs before after all = absurd all
  AreSearched-room (f ∷ fs) [] rs before after all = absurd all
  AreSearched-room (f ∷ fs) (h ∷ hs) [] before after all = absurd all
  AreSearched-room (f ∷ fs) (h ∷ hs) (r ∷ rs) before after all = (all.0, SearchCosts-room less below all.1, AreSearched-room fs hs rs all.0 after all.2)

  pub SearchesEach-room : (hashes : List (T → ℕ)) (x : T) (before after : Costs) → SearchesEach hashes bag room x before after → SearchesEach hashes bag less x before after
  SearchesEach-room hashes x before after each = record { answers = each.answers; searched = AreSearched-room hashes _ each.answers before after each.searched }

  pub SearchesFirst-room : (hashes : List (T → ℕ)) (x : T) (before after : Costs) → SearchesFirst hashes bag room x before after → SearchesFirst hashes bag less x before after
  SearchesFirst-room [] x before after first = absurd first
  SearchesFirst-room (f ∷ fs) x before after first = record { answer = first.answer; between = first.between; search = SearchCosts-room less below first.search; rest = first.rest }

-- no walk at each rank
pub walks_none : {X : Type 0} (n : ℕ) (ranks : List X) → walks_within n (map (λ (_ : X). 0) ranks) ≡ 0
walks_none n [] = refl
walks_none n (r ∷ ranks) = omega (arith, walks_none n ranks)
