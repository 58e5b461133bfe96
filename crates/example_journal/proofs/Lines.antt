-- What lines say: what one line more leads to, and which changes lines begin with.
use Rattle.std.specs.Prelude.{◌≡◌, ◌<◌, ◌^◌, ℕ, suc, List, [], ◌∷◌, ◌++◌, flat_map, get_or, take, Option, Some, None, option_map}
use Rattle.std.specs.Fmt.{decimal}
use Rattle.std.specs.List.{AllByRecursion}
use Rattle.std.specs.Option.{ForSome}
use Rattle.std.specs.Str.Parse.{AllDigits}
use Rattle.std.proofs.ByRecursion.{All-append}
use Rattle.std.proofs.Common.{refl, sym, ap, subst, ◌∙◌, arith}
use Rattle.std.proofs.Math.Logic.{∥∥₁_map}
use Rattle.std.proofs.lemmas.Fmt.{decimal_injective, decimal_is_IsNumeral}
use Rattle.std.proofs.lemmas.List.{append_assoc, append-nil}
use Rattle.std.proofs.lemmas.List.Concat.{flat_map-append}
use Rattle.std.proofs.lemmas.Str.Parse.{digit_from_value}
use Rattle.example_journal.specs.Changes.{InRange, Leads, Makes, Tells, line_of, numbers}
use Rattle.example_journal.specs.declared.changes.Change.{Change}
use Rattle.example_journal.specs.declared.changes.Change.TheVariants.{Plug, Unplug}
use Rattle.example_journal.specs.declared.changes.Device.{Device}

leads-more : (from old new : List Device) (cs : List Change) (c : Change) → Leads from cs old → Makes old c new → Leads from (cs ++ c ∷ []) new
leads-more from old new [] c led made = (new, subst (λ l. Makes l c new) led made, refl)
leads-more from old new (d ∷ cs) c led made = (led.0, led.1, leads-more led.0 old new cs c led.2 made)

-- one line more
pub tells-more : (lines : List ℕ) (old new : List Device) (c : Change) → Tells lines old → InRange c → Makes old c new → Tells (lines ++ line_of c) new
tells-more lines old new c told fits made = record {
  changes = told.changes ++ c ∷ [];
  in_range = All-append InRange told.changes (c ∷ []) told.in_range (fits, tt);
  written = ap (λ l. l ++ line_of c) told.written ∙ ap (λ l. flat_map line_of told.changes ++ l) (sym (append-nil (line_of c))) ∙ sym (flat_map-append line_of told.changes (c ∷ []));
  left = leads-more [] old new told.changes c told.left made;
}

-- the same of a log, which may not say what it has
pub tells-log : (old new : Option (List ℕ)) (before behind : List Device) (c : Change) → InRange c → ForSome old (λ lines. ∥ Tells lines before ∥₁)
    → new ≡ option_map (λ lines. lines ++ line_of c) old → Makes before c behind → ForSome new (λ lines. ∥ Tells lines behind ∥₁)
tells-log None new before behind c fits told is made = λ lines here. absurd (let none = sym is ∙ here in cc none)
tells-log (Some old) new before behind c fits told is made = λ lines here.
    let same : old ++ line_of c ≡ lines = (let both = sym is ∙ here in cc both) in
    ∥∥₁_map (told old refl) (λ tells. subst (λ l. Tells l behind) same (tells-more old before behind c tells fits made))

-- digits end at the first byte that is none
same_digits : (stop : ℕ) (ds es r s : List ℕ) → stop < 48 → AllDigits 10 ds → AllDigits 10 es → ds ++ stop ∷ r ≡ es ++ stop ∷ s → (ds ≡ es) × (r ≡ s)
same_digits stop [] [] r s low first second is = (refl, cc is)
same_digits stop [] (e ∷ es) r s low first second is = absurd (let here : stop ≡ e = cc is in omega (arith, here, (digit_from_value e second.0).0))
same_digits stop (d ∷ ds) [] r s low first second is = absurd (let here : d ≡ stop = cc is in omega (arith, here, (digit_from_value d first.0).0))
same_digits stop (d ∷ ds) (e ∷ es) r s low first second is =
    let rest = same_digits stop ds es r s low first.1 second.1 (cc is) in
    (cc (is, rest.0), rest.1)

same_number : (stop m n : ℕ) (r s : List ℕ) → stop < 48 → m < 2 ^ 64 → n < 2 ^ 64 → decimal m ++ stop ∷ r ≡ decimal n ++ stop ∷ s → (m ≡ n) × (r ≡ s)
same_number stop m n r s low first second is =
    let both = same_digits stop (decimal m) (decimal n) r s low (decimal_is_IsNumeral m first).0.1 (decimal_is_IsNumeral n second).0.1 is in
    (decimal_injective m n first second both.0, both.1)

same_device : (c d : Device) (r s : List ℕ) → InRange (Plug c) → InRange (Plug d) → numbers c ++ r ≡ numbers d ++ s → (c ≡ d) × (r ≡ s)
same_device c d r s first second is =
    let serial = same_number 32 c.serial d.serial _ _ (omega arith) first.0 second.0 (simp append_assoc at is) in
    let port = same_number 10 c.port d.port r s (omega arith) (omega (arith, first.1)) (omega (arith, second.1)) serial.1 in
    (ap (λ n. record { serial = n; port = c.port }) serial.0 ∙ ap (λ n. record { serial = d.serial; port = n }) port.0, port.1)

same_line : (c d : Change) (r s : List ℕ) → InRange c → InRange d → line_of c ++ r ≡ line_of d ++ s → (c ≡ d) × (r ≡ s)
same_line (Plug c) (Plug d) r s first second is = let both = same_device c d r s first second (cc is) in (ap Plug both.0, both.1)
same_line (Unplug c) (Unplug d) r s first second is = let both = same_device c d r s first second (cc is) in (ap Unplug both.0, both.1)
same_line (Plug c) (Unplug d) r s first second is = absurd (omega (arith, ap (λ l. get_or l 0 0) is))
same_line (Unplug c) (Plug d) r s first second is = absurd (omega (arith, ap (λ l. get_or l 0 0) is))

pub first_changes : (cs ds : List Change) (rest : List ℕ) → AllByRecursion InRange cs → AllByRecursion InRange ds →
    flat_map line_of cs ++ rest ≡ flat_map line_of ds → (n : ℕ) × (cs ≡ take n ds)
first_changes [] ds rest first second is = (0, refl)
first_changes (Plug c ∷ cs) [] rest first second is = absurd (cc is)
first_changes (Unplug c ∷ cs) [] rest first second is = absurd (cc is)
first_changes (c ∷ cs) (d ∷ ds) rest first second is =
    let both = same_line c d _ _ first.0 second.0 (sym (append_assoc (line_of c) (flat_map line_of cs) rest) ∙ is) in
    let others = first_changes cs ds rest first.1 second.1 both.1 in
    (suc others.0, cc (both.0, others.1))
