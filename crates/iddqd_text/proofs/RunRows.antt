-- Worked rows of runs: what commands on a new map may return, and print.
use Rattle.std.proofs.Common.{◌≡◌, ◌<◌, ◌^◌, refl, ap, ℕ, List, [], ◌∷◌, length, Some, None, Ok, arith}
use Rattle.std.specs.Prelude.{Vec, codes, nat_eq}
use denote.RawPtr.{null_ptr}
use Rattle.std.specs.declared.alloc.Global.{Global}
use Rattle.std.specs.Fmt.{digits}
use Rattle.std.proofs.lemmas.List.Sorted.{IsPermutation-refl}
use Rattle.iddqd_store.proofs.BagLemmas.Building.{IsSound-adds}
use Rattle.iddqd_store.proofs.BagLemmas.Steps.{IsSound-nil}
use Rattle.iddqd_store.specs.Bag.{Ranks, IsSound, adds}
use Rattle.iddqd_store.specs.declared.error.InsertReason.TheVariants.{Duplicate}
use Rattle.iddqd_bi.specs.Keys.{ranks}
use Rattle.iddqd_commands.specs.Reply.{Reply, done, duplicate, displaced, found, taken, refused, size, items, extend_refused}
use Rattle.iddqd_store.specs.Map.State.{State}
use Rattle.iddqd_commands_tri.specs.declared.command.TriCommand.TheVariants as tri
use Rattle.iddqd_commands_bi.specs.declared.command.BiCommand.TheVariants.{InsertUnique, InsertOverwrite, ExtendUnique, Get2, GetUnique, Remove1, Reserve, Len, Items}
use Rattle.iddqd_text.specs.Outputs.{Replies}
use Rattle.iddqd_text.specs.ThreeKeys as three_keys
use Rattle.iddqd_text.specs.Printed.{printed}
use Rattle.iddqd_text.specs.RunText.{IsOutcome}
use Rattle.iddqd_text.specs.declared.outcome.Kind.TheVariants.{Bi, Tri}
use Rattle.iddqd_text.specs.declared.outcome.RunEnd.TheVariants.{Done, BadLine}
use Rattle.iddqd_text.specs.TwoKeys.{Command, Prints, Steps, keys}
use Rattle.iddqd_text.specs.declared.item.bi.BiItem.{BiItem}
use Rattle.iddqd_text.specs.declared.item.tri.TriItem.{TriItem}
use Rattle.iddqd_text.proofs.Chain.{replies_from}

abbrev item : ℕ → ℕ → ℕ → BiItem
item k1 k2 v = record { key1 = k1; key2 = k2; value = v }

abbrev state : List BiItem → ℕ → State BiItem
state xs room = record { items = xs; capacity = room }

-- an insert into the room of a removed item
abbrev removing : List Command
removing = InsertUnique (item 1 10 100) ∷ Remove1 1 ∷ InsertUnique (item 2 20 200) ∷ []

abbrev removing_replies : List (Reply BiItem ℕ)
removing_replies = done ∷ taken (Some (item 1 10 100)) ∷ done ∷ []

room_after_a_removal : Replies Steps removing removing_replies
room_after_a_removal = replies_from Steps removing removing_replies (
  state (item 2 20 200 ∷ []) 1,
  (
    state (item 1 10 100 ∷ []) 1,
    (refl, IsPermutation-refl _, omega arith, λ room. absurd (omega (arith, room))),
    (omega arith, omega arith),
    (
      state [] 1,
      (refl, IsPermutation-refl _, refl),
      (omega arith, omega arith),
      (state (item 2 20 200 ∷ []) 1, (refl, IsPermutation-refl _, omega arith, λ room. refl), (omega arith, omega arith), refl),
    ),
  ),
)

prints_room_after_a_removal : Prints removing (codes "ok\nitem (1 10 100)\nok\n")
unfolding printed digits
prints_room_after_a_removal = (removing_replies, room_after_a_removal, refl)

-- an overwrite of two items, after which no item is found by the key that left
abbrev a : BiItem
a = item 1 10 100

abbrev b : BiItem
b = item 2 20 200

abbrev overwriting : List Command
overwriting = InsertUnique a ∷ InsertUnique b ∷ GetUnique 1 20 ∷ InsertOverwrite (item 1 20 300) ∷ Get2 10 ∷ Items ∷ []

abbrev overwriting_replies : List (Reply BiItem ℕ)
overwriting_replies = done ∷ done ∷ found None ∷ displaced (a ∷ b ∷ []) ∷ found None ∷ items (item 1 20 300 ∷ []) ∷ []

overwritten : Replies Steps overwriting overwriting_replies
overwritten = replies_from Steps overwriting overwriting_replies (
  state (item 1 20 300 ∷ []) 7,
  (
    state (a ∷ []) 7,
    (refl, IsPermutation-refl _, omega arith, λ room. absurd (omega (arith, room))),
    (omega arith, omega arith),
    (
      state (b ∷ a ∷ []) 7,
      (refl, IsPermutation-refl _, omega arith, λ room. refl),
      (omega arith, omega arith),
      (
        state (b ∷ a ∷ []) 7,
        (refl, refl),
        (omega arith, omega arith),
        (
          state (item 1 20 300 ∷ []) 7,
          (refl, IsPermutation-refl _, omega arith, (λ room. refl), λ some. refl),
          (omega arith, omega arith),
          (
            state (item 1 20 300 ∷ []) 7,
            (refl, refl),
            (omega arith, omega arith),
            (state (item 1 20 300 ∷ []) 7, (IsPermutation-refl _, refl), (omega arith, omega arith), refl),
          ),
        ),
      ),
    ),
  ),
)

prints_overwritten : IsOutcome Bi (codes "new 1 10 100\nnew 2 20 200\nboth 1 20\nput 1 20 300\nget2 10\nlist\n") Done (codes "ok\nok\nnone\nout (1 10 100) (2 20 200)\nnone\nlist (1 20 300)\n")
unfolding printed digits
prints_overwritten = (overwriting, refl, (overwriting_replies, overwritten, refl))

-- a conflict at both ranks
abbrev conflicting : List Command
conflicting = InsertUnique a ∷ InsertUnique b ∷ InsertUnique (item 2 10 5) ∷ Len ∷ []

abbrev conflicting_replies : List (Reply BiItem ℕ)
conflicting_replies = done ∷ done ∷ duplicate (item 2 10 5) (b ∷ a ∷ []) ∷ size 2 ∷ []

conflicted : Replies Steps conflicting conflicting_replies
conflicted = replies_from Steps conflicting conflicting_replies (
  state (b ∷ a ∷ []) 7,
  (
    state (a ∷ []) 7,
    (refl, IsPermutation-refl _, omega arith, λ room. absurd (omega (arith, room))),
    (omega arith, omega arith),
    (
      state (b ∷ a ∷ []) 7,
      (refl, IsPermutation-refl _, omega arith, λ room. refl),
      (omega arith, omega arith),
      (
        state (b ∷ a ∷ []) 7,
        (refl, (λ none. omega (arith, ap length none)), refl, refl),
        (omega arith, omega arith),
        (state (b ∷ a ∷ []) 7, (refl, refl), (omega arith, omega arith), refl),
      ),
    ),
  ),
)

prints_conflicted : IsOutcome Bi (codes "new 1 10 100\nnew 2 20 200\nnew 2 10 5\nlen\n") Done (codes "ok\nok\ndup (2 20 200) (1 10 100)\nlen 2\n")
unfolding printed digits
prints_conflicted = (conflicting, refl, (conflicting_replies, conflicted, refl))

-- a request for more room than memory can count
abbrev too_many : List Command
too_many = InsertUnique a ∷ Reserve 18446744073709551615 ∷ Len ∷ []

abbrev too_many_replies : List (Reply BiItem ℕ)
too_many_replies = done ∷ refused ∷ size 1 ∷ []

not_so_many : Replies Steps too_many too_many_replies
not_so_many = replies_from Steps too_many too_many_replies (
  state (a ∷ []) 7,
  (
    state (a ∷ []) 7,
    (refl, IsPermutation-refl _, omega arith, λ room. absurd (omega (arith, room))),
    (omega arith, omega arith),
    (
      state (a ∷ []) 7,
      (omega arith, refl),
      (omega arith, omega arith),
      (state (a ∷ []) 7, (refl, refl), (omega arith, omega arith), refl),
    ),
  ),
)

prints_not_so_many : IsOutcome Bi (codes "new 1 10 100\nreserve 18446744073709551615\nlen\n") Done (codes "ok\nmemory\nlen 1\n")
unfolding printed digits
prints_not_so_many = (too_many, refl, (too_many_replies, not_so_many, refl))

-- a list whose second item is rejected, and one that is inserted, stored somewhere
abbrev stored : Global → (xs : List BiItem) → length xs < 2 ^ 63 → Vec BiItem Global
stored alloc xs small = record { ptr = null_ptr; len = length xs; cap = length xs; alloc = alloc; items = xs; ok = (refl, omega arith); small = small }

abbrev item_ranks : Ranks BiItem
item_ranks = ranks keys nat_eq nat_eq

sound : (xs made : List BiItem) → adds item_ranks [] xs ≡ Ok made → IsSound item_ranks made
sound xs made is = IsSound-adds item_ranks [] xs made (IsSound-nil item_ranks) is

abbrev adding : Global → List Command
adding alloc =
    InsertUnique a
    ∷ ExtendUnique (stored alloc (item 3 30 0 ∷ item 4 30 0 ∷ []) (omega arith))
    ∷ Len
    ∷ ExtendUnique (stored alloc (item 3 30 0 ∷ item 4 40 0 ∷ []) (omega arith))
    ∷ Len
    ∷ []

abbrev adding_replies : List (Reply BiItem ℕ)
adding_replies = done ∷ extend_refused Duplicate (item 3 30 0 ∷ []) (item 4 30 0) ∷ size 1 ∷ done ∷ size 3 ∷ []

added : (alloc : Global) → Replies Steps (adding alloc) adding_replies
added alloc = replies_from Steps (adding alloc) adding_replies (
  state (item 4 40 0 ∷ item 3 30 0 ∷ a ∷ []) 7,
  (
    state (a ∷ []) 7,
    (refl, IsPermutation-refl _, omega arith, λ room. absurd (omega (arith, room))),
    (omega arith, omega arith),
    (
      state (a ∷ []) 7,
      ([], refl, IsPermutation-refl _, sound (a ∷ item 3 30 0 ∷ []) (item 3 30 0 ∷ a ∷ []) refl, (λ none. omega (arith, ap length none)), (omega arith, λ room. refl)),
      (omega arith, omega arith),
      (
        state (a ∷ []) 7,
        (refl, refl),
        (omega arith, omega arith),
        (
          state (item 4 40 0 ∷ item 3 30 0 ∷ a ∷ []) 7,
          ((item 4 40 0 ∷ item 3 30 0 ∷ a ∷ [], refl, IsPermutation-refl _), sound (a ∷ item 3 30 0 ∷ item 4 40 0 ∷ []) (item 4 40 0 ∷ item 3 30 0 ∷ a ∷ []) refl, (omega arith, λ room. refl)),
          (omega arith, omega arith),
          (state (item 4 40 0 ∷ item 3 30 0 ∷ a ∷ []) 7, (refl, refl), (omega arith, omega arith), refl),
        ),
      ),
    ),
  ),
)

prints_added : (alloc : Global) → IsOutcome Bi (codes "new 1 10 100\naddall 3 30 0 4 30 0\nlen\naddall 3 30 0 4 40 0\nlen\n") Done (codes "ok\nconflict (4 30 0)\nlen 1\nok\nlen 3\n")
unfolding printed digits
prints_added alloc = (adding alloc, refl, (adding_replies, added alloc, refl))

-- a bad line, and no line
prints_bad_line : IsOutcome Bi (codes "new 1 10 100\nget3 1\n") (BadLine 2) (codes "line 2: bad command\n")
unfolding digits
prints_bad_line = (refl, refl)

prints_nothing : IsOutcome Bi [] Done []
prints_nothing = ([], refl, ([], replies_from Steps [] [] (state [] 0, refl), refl))

-- three keys: an item that has one of each displaces three
abbrev over_three : TriItem
over_three = record { key1 = 1; key2 = 20; key3 = 300; value = 5 }

abbrev one_of_three : TriItem
one_of_three = record { key1 = 1; key2 = 10; key3 = 100; value = 7 }

abbrev two_of_three : TriItem
two_of_three = record { key1 = 2; key2 = 20; key3 = 200; value = 8 }

abbrev three_of_three : TriItem
three_of_three = record { key1 = 3; key2 = 30; key3 = 300; value = 9 }

abbrev displacing_three : List three_keys.Command
displacing_three = tri.InsertUnique one_of_three ∷ tri.InsertUnique two_of_three ∷ tri.InsertUnique three_of_three ∷ tri.InsertOverwrite over_three ∷ tri.Items ∷ []

abbrev displacing_three_replies : List (Reply TriItem ℕ)
displacing_three_replies = done ∷ done ∷ done ∷ displaced (one_of_three ∷ two_of_three ∷ three_of_three ∷ []) ∷ items (over_three ∷ []) ∷ []

abbrev tri_state : List TriItem → State TriItem
tri_state xs = record { items = xs; capacity = 7 }

displaced_three : Replies three_keys.Steps displacing_three displacing_three_replies
displaced_three = replies_from three_keys.Steps displacing_three displacing_three_replies (
  tri_state (over_three ∷ []),
  (
    tri_state (one_of_three ∷ []),
    (refl, IsPermutation-refl _, omega arith, λ room. absurd (omega (arith, room))),
    (omega arith, omega arith),
    (
      tri_state (two_of_three ∷ one_of_three ∷ []),
      (refl, IsPermutation-refl _, omega arith, λ room. refl),
      (omega arith, omega arith),
      (
        tri_state (three_of_three ∷ two_of_three ∷ one_of_three ∷ []),
        (refl, IsPermutation-refl _, omega arith, λ room. refl),
        (omega arith, omega arith),
        (
          tri_state (over_three ∷ []),
          (refl, IsPermutation-refl _, omega arith, (λ room. refl), λ some. refl),
          (omega arith, omega arith),
          (tri_state (over_three ∷ []), (IsPermutation-refl _, refl), (omega arith, omega arith), refl),
        ),
      ),
    ),
  ),
)

prints_displaced_three : IsOutcome Tri (codes "new 1 10 100 7\nnew 2 20 200 8\nnew 3 30 300 9\nput 1 20 300 5\nlist\n") Done
    (codes "ok\nok\nok\nout (1 10 100 7) (2 20 200 8) (3 30 300 9)\nlist (1 20 300 5)\n")
unfolding printed digits
prints_displaced_three = (displacing_three, refl, (displacing_three_replies, displaced_three, refl))
