-- What is known of the one item that a key names.
use Rattle.std.specs.Prelude.{◌≡◌, ◌<◌, true, List, length, [], ◌∷◌, Option, Some, None, IfSome, IsPermutation}
use Rattle.std.proofs.Common.{subst}
use Rattle.std.specs.Option.{option_to_list}
use Rattle.iddqd_store.specs.Bag.{Ranks, AreLawful, agrees, swap}
use Rattle.iddqd_store.specs.Map.{Map, bag}
use Rattle.iddqd_store.proofs.CallerLemmas.{swap-twice}

-- a property of the item that is found holds for the one that the key names
only_holds : {X : Type 0} (P : X → Type 0) (o : Option X) (x : X) (xs : List X) → option_to_list o ≡ xs → x ∷ [] ≡ xs → IfSome o P → P x
only_holds P None x xs is only h = absurd (cc (is, only))
only_holds P (Some y) x xs is only h = let same : y ≡ x = cc (is, only) in subst P same h

-- the same if the item that is found was written
pub only_written : {T S : Type 0} (ranks : Ranks T) (write : T → T) (old there : Map T S) (new : List T) (found : Option T) (x : T) (xs : List T)
    → there ≡ old → option_to_list found ≡ xs → x ∷ [] ≡ xs → IfSome found (λ y. IsPermutation new (swap ranks (bag there) y (write y)))
    → IsPermutation new (swap ranks (bag old) x (write x))
only_written {T} {S} ranks write old there new found x xs same is only h =
    subst (λ (m : Map T S). IsPermutation new (swap ranks (bag m) x (write x))) same (only_holds (λ y. IsPermutation new (swap ranks (bag there) y (write y))) found x xs is only h)

-- the same if it was written twice
pub only_written_twice : {T S : Type 0} (ranks : Ranks T) → AreLawful ranks → 0 < length ranks → (first last : T → T) (old there middle : Map T S)
    (new : List T) (found wrote : Option T) (x : T) (xs : List T) → agrees ranks x (first x) ≡ true → there ≡ old → option_to_list found ≡ xs
    → x ∷ [] ≡ xs → IfSome found (λ y. IsPermutation (bag middle) (swap ranks (bag there) y (first y))) → IfSome found (λ y. wrote ≡ Some (first y))
    → IfSome wrote (λ y. IsPermutation new (swap ranks (bag middle) y (last y))) → IsPermutation new (swap ranks (bag old) x (last (first x)))
only_written_twice ranks laws some first last old there middle new found wrote x xs agree same is only swaps item again =
    let here : wrote ≡ Some (first x) = only_holds (λ y. wrote ≡ Some (first y)) found x xs is only item in
    swap-twice ranks laws some (bag old) (bag middle) new x (first x) (last (first x)) agree (only_written ranks first old there (bag middle) found x xs same is only swaps) (rw here at again)
