-- What searches at all ranks cost together.
use Rattle.std.specs.Prelude.{◌≡◌, ◌≤◌, ◌+◌, ℕ, List, [], ◌∷◌, length, map, Option}
use Rattle.std.proofs.Common.{arith}
use Rattle.iddqd_store.specs.Rank.{Costs, walks_within}
use Rattle.iddqd_store.specs.Rank.All.{AreSearched, PlacingCosts, crowds}

module _ {T : Type 0} (bag : List T) (room : ℕ) where
  -- they ask no more often than items have the hashes
  pub searched_asked : (hashes : List (T → ℕ)) (hs : List ℕ) (answers : List (Option ℕ)) (before after : Costs)
      → AreSearched hashes bag room hs answers before after → after.asked ≤ before.asked + crowds hashes bag hs
  searched_asked [] [] [] before after all = rw all (omega arith)
  searched_asked [] [] (r ∷ rs) before after all = absurd all
  searched_asked [] (h ∷ hs) rs before after all = absurd all
  searched_asked (f ∷ fs) [] rs before after all = absurd all
  searched_asked (f ∷ fs) (h ∷ hs) [] before after all = absurd all
  searched_asked (f ∷ fs) (h ∷ hs) (r ∷ rs) before after all =
      let rest = searched_asked fs hs rs all.0 after all.2 in
      omega (arith, all.1.asked, rest)

  -- they probe at most one cell more than there are items, at each rank
  pub searched_most : (hashes : List (T → ℕ)) (hs : List ℕ) (answers : List (Option ℕ)) (before after : Costs)
      → AreSearched hashes bag room hs answers before after → after.probed ≤ before.probed + walks_within (length bag) (map (λ _. 1) hashes)
  searched_most [] [] [] before after all = rw all (omega arith)
  searched_most [] [] (r ∷ rs) before after all = absurd all
  searched_most [] (h ∷ hs) rs before after all = absurd all
  searched_most (f ∷ fs) [] rs before after all = absurd all
  searched_most (f ∷ fs) (h ∷ hs) [] before after all = absurd all
  searched_most (f ∷ fs) (h ∷ hs) (r ∷ rs) before after all =
      let rest = searched_most fs hs rs all.0 after all.2 in
      omega (arith, all.1.at_most, rest)

-- searches at all ranks, and then walks
pub placing : {T : Type 0} {hashes : List (T → ℕ)} {bag : List T} {room : ℕ} {hs walks : List ℕ} {before after : Costs}
    (answers : List (Option ℕ)) (between : ℕ) → AreSearched hashes bag room hs answers before (record { asked = after.asked; probed = between })
    → after.probed ≤ between + walks_within (length bag) walks → PlacingCosts hashes bag room hs walks before after
placing {hashes = hashes} {bag = bag} {room = room} {hs = hs} answers between all rest = record {
  answers = answers;
  between = between;
  search = all;
  rest = rest;
  asked = searched_asked bag room hashes hs answers _ _ all;
  at_most = let most = searched_most bag room hashes hs answers _ _ all in omega (arith, most, rest);
}

-- a call that only searched, and the walks after it
pub walked_after : {T : Type 0} {hashes : List (T → ℕ)} {bag : List T} {room : ℕ} {hs none walks : List ℕ} {before between : Costs} {after : ℕ}
    → PlacingCosts hashes bag room hs none before between → walks_within (length bag) none ≡ 0
    → after ≤ between.probed + walks_within (length bag) walks → PlacingCosts hashes bag room hs walks before (record { asked = between.asked; probed = after })
walked_after own still walked = placing own.answers own.between own.search (omega (arith, own.rest, still, walked))
