-- What the definition of a run does not allow.
use Rattle.std.proofs.Common.{◌≡◌, refl, sym, ap, ◌∙◌, subst, ℕ, ◌+◌, length, List, [], ◌∷◌, Some, None, arith, get_or}
use Rattle.std.specs.Prelude.{nat_eq, codes, map, Option, is_none, IsPermutation}
use Rattle.std.specs.Fmt.{digits}
use Rattle.std.specs.List.{flat_map, position_from}
use Rattle.std.proofs.lemmas.List.{nil_from_length}
use Rattle.std.proofs.lemmas.List.Sorted.{IsPermutation-sym, IsPermutation-trans, length_permutation}
use Rattle.iddqd_store.proofs.BagLemmas.Sound.{same_from_short, length-with_item}
use Rattle.iddqd_store.proofs.BagLemmas.Steps.{length-conflicts_of}
use Rattle.iddqd_bi.specs.Keys.{ranks}
use Rattle.iddqd_commands.specs.Reply.{Reply, done, duplicate, displaced, taken, memory, refused}
use Rattle.iddqd_commands_bi.specs.declared.command.BiCommand.TheVariants.{InsertUnique, InsertOverwrite, Remove1, Reserve}
use Rattle.iddqd_text.specs.Commands.{Spelled, Spells, first_bad_line}
use Rattle.iddqd_text.specs.Outputs.{Replies}
use Rattle.iddqd_text.specs.Printed.{line_of, printed}
use Rattle.iddqd_text.specs.TwoKeys.{Command, Prints, Steps, command_of, keys, numbers, spelled}
use Rattle.iddqd_text.specs.declared.item.bi.BiItem.{BiItem}
use Rattle.iddqd_text.proofs.Chain.{FromEmpty, from_empty}

abbrev first : BiItem
first = record { key1 = 1; key2 = 10; value = 100 }

abbrev second : BiItem
second = record { key1 = 2; key2 = 20; value = 200 }

abbrev removing : List Command
removing = InsertUnique first ∷ Remove1 1 ∷ InsertUnique second ∷ []

abbrev reserving : ℕ → List Command
reserving more = InsertUnique first ∷ Reserve more ∷ []

no_memory_behind_a_removal : (item : BiItem) → FromEmpty Steps removing (done ∷ taken (Some first) ∷ memory item ∷ []) → ⊥
no_memory_behind_a_removal item chain =
    let one = chain.1 in
    let two = one.3 in
    let three = two.3 in
    omega (arith, length_permutation _ _ one.1.1, length_permutation _ _ two.1.1, one.2.0, two.1.2, three.1.2)

no_refusal_of_no_more : FromEmpty Steps (reserving 0) (done ∷ refused ∷ []) → ⊥
no_refusal_of_no_more chain =
    let one = chain.1 in
    let two = one.3 in
    omega (arith, one.2.0, two.1.0)

-- `new 1 10 100`, `del1 1`, `new 2 20 200` are not answered by `ok`, `item (1 10 100)`, `memory (2 20 200)`: a removal leaves room
pub no_memory_after_a_removal : Replies Steps removing (done ∷ taken (Some first) ∷ memory second ∷ []) → ⊥
no_memory_after_a_removal run = no_memory_behind_a_removal second (from_empty Steps removing (done ∷ taken (Some first) ∷ memory second ∷ []) run)

-- `new 1 10 100`, `reserve 0` are not answered by `ok`, `memory`: the items that are there fit
pub no_memory_for_no_more : Replies Steps (reserving 0) (done ∷ refused ∷ []) → ⊥
no_memory_for_no_more run = no_refusal_of_no_more (from_empty Steps (reserving 0) (done ∷ refused ∷ []) run)

-- `new 1 10 100`, `reserve 18446744073709551615` are not answered by `ok`, `ok`: no map has so much room
pub no_room_past_memory : Replies Steps (reserving 18446744073709551615) (done ∷ done ∷ []) → ⊥
no_room_past_memory run =
    let one = (from_empty Steps (reserving 18446744073709551615) (done ∷ done ∷ []) run).1 in
    let two = one.3 in
    omega (arith, two.1.1, two.2.1)

abbrev over_both : BiItem
over_both = record { key1 = 1; key2 = 20; value = 300 }

abbrev third : BiItem
third = record { key1 = 3; key2 = 30; value = 0 }

abbrev overwriting : List Command
overwriting = InsertUnique first ∷ InsertUnique second ∷ InsertOverwrite over_both ∷ InsertUnique third ∷ []

-- `new 1 10 100`, `new 2 20 200`, `put 1 20 300`, `new 3 30 0` do not end with `memory`: what displaces two leaves room
pub no_memory_after_displacing_two : Replies Steps overwriting (done ∷ done ∷ displaced (first ∷ second ∷ []) ∷ memory third ∷ []) → ⊥
no_memory_after_displacing_two run =
    let one = (from_empty Steps overwriting (done ∷ done ∷ displaced (first ∷ second ∷ []) ∷ memory third ∷ []) run).1 in
    let two = one.3 in
    let three = two.3 in
    let four = three.3 in
    let ranks = ranks keys nat_eq nat_eq in
    omega (
      arith,
      length_permutation _ _ one.1.1,
      length_permutation _ _ two.1.1,
      length_permutation _ _ three.1.1,
      two.2.0,
      three.1.2,
      four.1.2,
      ap length three.1.0,
      length-conflicts_of ranks two.0.items over_both,
      length-with_item ranks two.0.items over_both,
    )

-- The same for what is printed. The first bytes of lines distinguish them.
abbrev at : ℕ → List ℕ → ℕ
at place text = get_or text place 0

pub not_printed_for_no_more : Prints (reserving 0) (codes "ok\nmemory\n") → ⊥
not_printed_for_no_more prints = by_replies prints.0 (from_empty Steps (reserving 0) prints.0 prints.1) prints.2
  where
    by_second : (two : Reply BiItem ℕ) → FromEmpty Steps (reserving 0) (done ∷ two ∷ []) → codes "ok\nmemory\n" ≡ flat_map (line_of numbers) (done ∷ two ∷ []) → ⊥
    by_second done chain e = omega (arith, ap (at 3) e)
    by_second refused chain e = no_refusal_of_no_more chain
    by_second two chain e = absurd (chain.1.3.1)

    by_first : (one two : Reply BiItem ℕ) → FromEmpty Steps (reserving 0) (one ∷ two ∷ []) → codes "ok\nmemory\n" ≡ flat_map (line_of numbers) (one ∷ two ∷ []) → ⊥
    by_first done two chain e = by_second two chain e
    by_first (duplicate x xs) two chain e = omega (arith, ap (at 0) e)
    by_first (memory x) two chain e = omega (arith, ap (at 0) e)
    by_first one two chain e = absurd (chain.1.1)

    by_replies : (replies : List (Reply BiItem ℕ)) → FromEmpty Steps (reserving 0) replies → codes "ok\nmemory\n" ≡ flat_map (line_of numbers) replies → ⊥
    by_replies [] chain e = absurd (chain.1)
    by_replies (one ∷ []) chain e = absurd (chain.1.3)
    by_replies (one ∷ two ∷ []) chain e = by_first one two chain e
    by_replies (one ∷ two ∷ three ∷ more) chain e = absurd (chain.1.3.3)

-- the one member is what is removed
the_member : (held left : List BiItem) (x y : BiItem) → IsPermutation held (x ∷ []) → IsPermutation held (y ∷ left) → y ≡ x
the_member held left x y has had =
    let none : left ≡ [] = nil_from_length left (omega (arith, length_permutation _ _ has, length_permutation _ _ had)) in
    let only = subst (λ (l : List BiItem). IsPermutation held (y ∷ l)) none had in
    ap (λ (l : List BiItem). get_or l 0 x) (same_from_short (y ∷ []) (x ∷ []) (IsPermutation-trans _ _ _ (IsPermutation-sym _ _ only) has) (omega arith))

abbrev removing_text : List ℕ
removing_text = codes "ok\nitem (1 10 100)\nmemory (2 20 200)\n"

pub not_printed_after_a_removal : Prints removing removing_text → ⊥
unfolding printed digits
not_printed_after_a_removal prints = by_replies prints.0 (from_empty Steps removing prints.0 prints.1) prints.2
  where
    by_third : (three : Reply BiItem ℕ) → FromEmpty Steps removing (done ∷ taken (Some first) ∷ three ∷ []) → removing_text ≡ flat_map (line_of numbers) (done ∷ taken (Some first) ∷ three ∷ []) → ⊥
    by_third done chain e = omega (arith, ap (at 19) e)
    by_third (duplicate x xs) chain e = omega (arith, ap (at 19) e)
    by_third (memory x) chain e = no_memory_behind_a_removal x chain
    by_third three chain e = absurd (chain.1.3.3.1)

    by_second : (two three : Reply BiItem ℕ) → FromEmpty Steps removing (done ∷ two ∷ three ∷ []) → removing_text ≡ flat_map (line_of numbers) (done ∷ two ∷ three ∷ []) → ⊥
    by_second (taken None) three chain e = omega (arith, ap (at 3) e)
    by_second (taken (Some y)) three chain e =
        let is : y ≡ first = the_member chain.1.0.items chain.1.3.0.items first y chain.1.1.1 chain.1.3.1.1 in
        subst (λ (x : BiItem). FromEmpty Steps removing (done ∷ taken (Some x) ∷ three ∷ []) → removing_text
        ≡ flat_map (line_of numbers) (done ∷ taken (Some x) ∷ three ∷ []) → ⊥) (sym is) (by_third three) chain e
    by_second two three chain e = absurd (chain.1.3.1)

    by_first : (one two three : Reply BiItem ℕ) → FromEmpty Steps removing (one ∷ two ∷ three ∷ []) → removing_text ≡ flat_map (line_of numbers) (one ∷ two ∷ three ∷ []) → ⊥
    by_first done two three chain e = by_second two three chain e
    by_first (duplicate x xs) two three chain e = omega (arith, ap (at 0) e)
    by_first (memory x) two three chain e = omega (arith, ap (at 0) e)
    by_first one two three chain e = absurd (chain.1.1)

    by_replies : (replies : List (Reply BiItem ℕ)) → FromEmpty Steps removing replies → removing_text ≡ flat_map (line_of numbers) replies → ⊥
    by_replies [] chain e = absurd (chain.1)
    by_replies (one ∷ []) chain e = absurd (chain.1.3)
    by_replies (one ∷ two ∷ []) chain e = absurd (chain.1.3.3)
    by_replies (one ∷ two ∷ three ∷ []) chain e = by_first one two three chain e
    by_replies (one ∷ two ∷ three ∷ four ∷ more) chain e = absurd (chain.1.3.3.3)

-- what a line spells
abbrev Spelling : Type 0
Spelling = Spelled Command BiItem

-- An input whose lines all spell commands has no bad line.
no_bad_line : (count : ℕ) (commands : List Command) → position_from (λ (found : Option Spelling). is_none found) count (map (λ (command : Command). Some (spelled command)) commands) ≡ None
no_bad_line count [] = refl
no_bad_line count (command ∷ commands) = no_bad_line (count + 1) commands

pub not_done_and_bad : (text : List ℕ) (commands : List Command) (n : ℕ) → Spells command_of spelled text commands → first_bad_line command_of text ≡ Some n → ⊥
not_done_and_bad text commands n spells bad =
    let none : first_bad_line command_of text ≡ None = ap (λ (found : List (Option Spelling)). position_from (λ o. is_none o) 1 found) spells ∙ no_bad_line 1 commands in
    apart (sym none ∙ bad)
  where
    apart : ◌≡◌ {A = Option ℕ} None (Some n) → ⊥
    apart e = cc
