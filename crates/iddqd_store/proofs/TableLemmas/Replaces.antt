-- A pair leaves a table before another one is replaced.
use Rattle.std.proofs.Common.{ℕ, List, ◌∷◌, []}
use Rattle.std.specs.List.Sorted.{IsPermutation}
use Rattle.std.proofs.lemmas.List.Sorted.{IsPermutation-cons, IsPermutation-middle, IsPermutation-sym, IsPermutation-trans}
use Rattle.iddqd_store.specs.Table.{ReplacesPair, ReplacesTwo, ReplacesThree}

module _ {old rest new : List (ℕ × ℕ)} {one two pair : ℕ × ℕ} where
  pub after_one : IsPermutation old (one ∷ rest) → ReplacesPair rest new two pair → ReplacesTwo old new one two pair
  after_one gone replaced = record {
    others = replaced.others;
    had = IsPermutation-trans _ _ _ gone (IsPermutation-cons one rest (two ∷ replaced.others) replaced.had);
    has = replaced.has;
  }

  pub after_two : IsPermutation old (two ∷ rest) → ReplacesPair rest new one pair → ReplacesTwo old new one two pair
  after_two gone replaced = record {
    others = replaced.others;
    had = IsPermutation-trans _ _ _ gone (IsPermutation-trans _ _ _ (IsPermutation-cons two rest _ replaced.had) (IsPermutation-middle (two ∷ []) one replaced.others));
    has = replaced.has;
  }

  module _ {three : ℕ × ℕ} where
    -- the second of three pairs leaves, and then the others are replaced
    pub after_second : IsPermutation old (two ∷ rest) → ReplacesTwo rest new one three pair → ReplacesThree old new one two three pair
    after_second gone replaced = record {
      others = replaced.others;
      had = IsPermutation-trans _ _ _ gone (IsPermutation-trans _ _ _ (IsPermutation-cons two rest _ replaced.had) (IsPermutation-middle (two ∷ []) one (three ∷ replaced.others)));
      has = replaced.has;
    }

    -- the third of them leaves
    pub after_third : IsPermutation old (three ∷ rest) → ReplacesTwo rest new one two pair → ReplacesThree old new one two three pair
    after_third gone replaced = record {
      others = replaced.others;
      had = IsPermutation-trans _ _ _ gone
          (IsPermutation-trans _ _ _ (IsPermutation-cons three rest _ replaced.had) (IsPermutation-sym _ _ (IsPermutation-middle (one ∷ two ∷ []) three replaced.others)));
      has = replaced.has;
    }
