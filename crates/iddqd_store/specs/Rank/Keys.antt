-- Keys as tests of items, one for each rank.
use Rattle.std.specs.Prelude.{◌≡◌, Bool, true, List}
use Rattle.std.specs.List.{AllZip}
use Rattle.iddqd_store.specs.Bag.{Ranks}

module _ {T : Type 0} where
  -- The test is for one key: an item that passes it agrees with exactly the items that pass it.
  -- Example: It holds for the test whether the first key is 2, and the first rank.
  abbrev pub IsKeyTest : (T → T → Bool) → (T → Bool) → Type 0
  IsKeyTest agree test = (x y : T) → test x ≡ true → agree x y ≡ test y

  -- For each rank there is a test for one key (`IsKeyTest`).
  -- Example: It holds for the tests for the keys 1 and 20.
  abbrev pub AreKeyTests : Ranks T → List (T → Bool) → Type 0
  AreKeyTests ranks tests = AllZip IsKeyTest ranks tests
