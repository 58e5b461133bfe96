-- What is known of the slot that a search by a hash found.
use Rattle.std.specs.Prelude.{◌≡◌, ℕ, Bool, true, All, List, [], ◌∷◌, Option, None, Some, IfSome}
use Rattle.std.specs.List.{filter}
use Rattle.std.proofs.Common.{sym, subst, ◌∙◌}
use Rattle.std.proofs.lemmas.List.Elements.{All-head, filter_passes}
use Rattle.iddqd_store.specs.Rank.Index.{HasHash}
use Rattle.iddqd_store.specs.Slots.{get, contents, Updates}
use Rattle.iddqd_store.specs.Slots.Found.{FoundAt}

module _ {T : Type 0} (hash : T → ℕ) (slots : List (Option T)) where
  -- the slot that a search by a test found is known if all items that pass the test have one hash
  pub found_by_hash : (test : T → Bool) (at : Option ℕ) (h : ℕ) → FoundAt test slots at → ((x : T) → test x ≡ true → hash x ≡ h) → IfSome at (λ i. HasHash hash slots i h)
  found_by_hash test None h found same = tt
  found_by_hash test (Some slot) h found same = λ x stands.
      let only : x ∷ [] ≡ filter test (contents slots) = rw stands at found.only in
      same x (All-head (λ y. test y ≡ true) x [] (subst (All (λ y. test y ≡ true)) (sym only) (filter_passes test (contents slots))))

-- an item that is in a slot after a removal was there before
pub stood : {T : Type 0} (slots less : List (Option T)) (slot at : ℕ) (x : T) → Updates slots less slot None → get less at ≡ Some x → get slots at ≡ Some x
stood slots less slot at x out stands =
    sym (out.others at (λ same. let gone : get less at ≡ None = rw same out.changed in cc (gone, stands))) ∙ stands
