-- What the calls of an entry do to the bag in which its keys were looked up.
use Rattle.std.specs.Prelude.{◌≡◌, ◌≢◌, true, [], ◌∷◌, List, is_some, Option, Some, None, IfSome, IsPermutation}
use Rattle.std.proofs.Common.{refl, ap, ◌∙◌}
use Rattle.std.proofs.lemmas.List.Sorted.{IsPermutation-refl}
use Rattle.std.specs.Option.{option_to_list}
use Rattle.iddqd_store.specs.Bag.{Ranks, swap, entry_of, vacant, unique, non_unique}
use Rattle.iddqd_store.specs.Bag as bags
use Rattle.iddqd_store.specs.Callers.{InsertsOrWrites, WritesEntry}

-- A unique entry has the one item `o`, and any other entry has none.
module _ {T : Type 0} where
  pub one_unique : (listed : List T) (o : Option T) (y : T) → entry_of listed (option_to_list o) ≡ unique y → o ≡ Some y
  one_unique [] None y is = absurd (cc is)
  one_unique (x ∷ listed) None y is = absurd (cc is)
  one_unique [] (Some z) y is = absurd (cc is)
  one_unique (x ∷ listed) (Some z) y is = let same : z ≡ y = cc is in ap Some same

  pub one_not : (listed : List T) (o : Option T) (ys : List T) → entry_of listed (option_to_list o) ≡ non_unique ys → o ≡ None
  one_not listed None ys is = refl
  one_not [] (Some z) ys is = absurd (cc is)
  one_not (x ∷ listed) (Some z) ys is = absurd (cc is)

module _ {T : Type 0} (old : List T) (x : T) where
  -- x was inserted, or what was there is held
  abbrev pub IsInsertedOrHeld : bags.Entry T → List T → bags.Entry T → Type 0
  IsInsertedOrHeld vacant there held = IsPermutation there (x ∷ old) × (held ≡ unique x)
  IsInsertedOrHeld (unique y) there held = (there ≡ old) × (held ≡ unique y)
  IsInsertedOrHeld (non_unique ys) there held = (there ≡ old) × (held ≡ non_unique ys)

  pub occupied_as : (listed whole there : List T) (held : bags.Entry T) → listed ≢ [] → there ≡ old → held ≡ entry_of listed whole → IsInsertedOrHeld (entry_of listed whole) there held
  occupied_as [] whole there held some same is = absurd (some refl)
  occupied_as (y ∷ listed) [] there held some same is = (same, is)
  occupied_as (y ∷ listed) (z ∷ whole) there held some same is = (same, is)

  -- then the item with all keys is written
  pub writes_entry : (ranks : Ranks T) (write : T → T) (E held : bags.Entry T) (there new : List T) (found one : Option T) → IsInsertedOrHeld E there held
      → ((y : T) → held ≡ unique y → one ≡ Some y) → ((ys : List T) → held ≡ non_unique ys → one ≡ None) → found ≡ one → is_some found ≡ true
      → IfSome found (λ y. IsPermutation new (swap ranks there y (write y))) → WritesEntry ranks write old x E new
  writes_entry ranks write vacant held there new found one put is_one is_none same some swaps =
      (there, put.0, rw (same ∙ is_one x put.1) at swaps)
  writes_entry ranks write (unique y) held there new found one put is_one is_none same some swaps =
      rw (← put.0) (rw (same ∙ is_one y put.1) at swaps)
  writes_entry ranks write (non_unique ys) held there new found one put is_one is_none same some swaps =
      absurd (cc (some, same, is_none ys put.1))

  -- if no item has all keys, nothing is written
  pub rests_entry : (ranks : Ranks T) (write : T → T) (E held : bags.Entry T) (there new : List T) (found one : Option T) → IsInsertedOrHeld E there held
      → ((y : T) → held ≡ unique y → one ≡ Some y) → found ≡ one → found ≡ None → new ≡ there → WritesEntry ranks write old x E new
  rests_entry ranks write vacant held there new found one put is_one same none rests = absurd (cc (none, same, is_one x put.1))
  rests_entry ranks write (unique y) held there new found one put is_one same none rests = absurd (cc (none, same, is_one y put.1))
  rests_entry ranks write (non_unique ys) held there new found one put is_one same none rests = rw (rests ∙ put.0) (IsPermutation-refl old)

  pub writes_found : (ranks : Ranks T) (write : T → T) (listed whole there new : List T) (held : bags.Entry T) (found one : Option T) → listed ≢ []
      → there ≡ old → held ≡ entry_of listed whole → ((y : T) → held ≡ unique y → one ≡ Some y) → ((ys : List T) → held ≡ non_unique ys → one ≡ None)
      → found ≡ one → is_some found ≡ true → IfSome found (λ y. IsPermutation new (swap ranks there y (write y)))
      → InsertsOrWrites ranks write old x (entry_of listed whole) new
  writes_found ranks write [] whole there new held found one not_none is entry is_one is_none same some swaps = absurd (not_none refl)
  writes_found ranks write (y ∷ listed) [] there new held found one not_none is entry is_one is_none same some swaps =
      absurd (cc (some, same, is_none (y ∷ listed) entry))
  writes_found ranks write (y ∷ listed) (z ∷ whole) there new held found one not_none is entry is_one is_none same some swaps =
      rw (← is) (rw (same ∙ is_one z entry) at swaps)
