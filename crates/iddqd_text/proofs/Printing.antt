-- Items after a text, one after another.
use Rattle.std.proofs.Common.{◌≡◌, ap, sym, ◌∙◌, ℕ, suc, ◌+◌, ◌<◌, ◌≤◌, List, [], ◌∷◌, ◌++◌, length, get_or, drop, Option, Some, None, codes, refl, append-nil, append_assoc, add-one, drop-cons}
use Rattle.std.specs.Prelude.{map, slice_get}
use Rattle.std.proofs.Math.ListN.{drop_of_length-le}
use Rattle.std.specs.Fmt.{decimal, digits}
use Rattle.iddqd_text.specs.Printed.{printed, items_text}

module _ {T : Type 0} (numbers : T → List ℕ) where
  -- a line of items ends if no item is left
  pub items_end : {X : Type 0} (item_of : X → T) (items : List X) (first : Option X) (line word all end new : List ℕ)
      → first ≡ slice_get items 0 → first ≡ None → new ≡ line ++ end → line ++ items_text numbers (map item_of items) ≡ word ++ all → new ≡ word ++ all ++ end
  items_end item_of [] first line word all end new h e n r = n ∙ ap (λ (xs : List ℕ). xs ++ end) (sym (append-nil line) ∙ r)
  items_end item_of (x ∷ xs) first line word all end new h e n r = let k : Some x ≡ None = sym h ∙ e in cc

  -- a text, an item and the others
  items_next : (item : T) (items : List T) (line : List ℕ) → (line ++ codes " " ++ printed (numbers item)) ++ items_text numbers items ≡ line ++ items_text numbers (item ∷ items)
  items_next item items line = append_assoc (line ++ codes " ") (printed (numbers item)) (items_text numbers items) ∙ append_assoc line (codes " ") (printed (numbers item) ++ items_text numbers items)

  -- the item at a place, after those before it
  pub items_more : (items : List T) (i : ℕ) (item : T) (line new all : List ℕ) → i < length items → item ≡ get_or items i item
      → new ≡ line ++ codes " " ++ printed (numbers item) → line ++ items_text numbers (drop i items) ≡ all → new ++ items_text numbers (drop (i + 1) items) ≡ all
  items_more items i item line new all h is n r =
      let first : item ∷ drop (i + 1) items ≡ drop i items = rw add-one (ap (λ x. x ∷ drop (suc i) items) is ∙ sym (drop-cons items i item h)) in
      ap (λ (xs : List ℕ). xs ++ items_text numbers (drop (i + 1) items)) n
      ∙ (items_next item (drop (i + 1) items) line ∙ (ap (λ (xs : List T). line ++ items_text numbers xs) first ∙ r))

  -- past the last place
  pub items_past : (items : List T) (i : ℕ) (line word all end new : List ℕ) → length items ≤ i
      → new ≡ line ++ end → line ++ items_text numbers (drop i items) ≡ word ++ all → new ≡ word ++ all ++ end
  items_past items i line word all end new h n r =
      n ∙ ap (λ (xs : List ℕ). xs ++ end) (sym (append-nil line) ∙ (ap (λ (xs : List T). line ++ items_text numbers xs) (sym (drop_of_length-le items {i = i} h)) ∙ r))

-- the words of the ranks
pub first_key_word : codes "key" ++ decimal (0 + 1) ++ codes " " ≡ codes "key1 "
unfolding digits
first_key_word = refl

pub second_key_word : codes "key" ++ decimal (1 + 1) ++ codes " " ≡ codes "key2 "
unfolding digits
second_key_word = refl

pub third_key_word : codes "key" ++ decimal (2 + 1) ++ codes " " ≡ codes "key3 "
unfolding digits
third_key_word = refl
