use Rattle.std.proofs.Common.{◌≡◌, ◌++◌, [], ℕ, List, Option, Some, None, IfSome, length, take, drop, ◌∙◌, refl, sym, ap, arith, rules, option_map, length-take, length-drop}
use Rattle.std.proofs.lemmas.List.{append-nil, take-append-drop}
use Rattle.example_journal.proofs.registry.Registry.open.Goals as goal

-- a log that was cut to its first bytes
cut : (old new : Option (List ℕ)) (bytes : List ℕ) (len : ℕ) → IfSome old (λ here. bytes ≡ here) → new ≡ option_map (λ here. take len here ++ []) old →
    (old ≡ option_map (λ lines. lines ++ drop len bytes) new) × ((x : List ℕ) → new ≡ Some x → take len bytes ≡ x)
cut None new bytes len same is = (rw is refl, λ x some. absurd (let none = sym is ∙ some in cc none))
cut (Some here) new bytes len same is = (
  rw (is, append-nil, same, take-append-drop) refl,
  λ x some. (let both = sym is ∙ some in cc (both, append-nil (take len here), ap (take len) same)),
)

pub returns-clause-kept : goal.returns-clause-kept
returns-clause-kept g c =
    let log = cut (g.L.Log.kept c.args.self.now.log) (g.L.Log.kept c.write.new.self) c.in_ok-bytes.bytes.items c.in_ok-devices.len c.in_ok-bytes.ensures c.in_ok-write.ensures.written in
    let load = rw c.as_slice.ensures.value at c.in_ok-devices.ensures in
    (drop c.in_ok-devices.len c.in_ok-bytes.bytes.items, search (rules, length-drop c.in_ok-devices.len c.in_ok-bytes.bytes.items), load.1, log.0)

pub invariant_of-self-2 : goal.invariant_of-self-2
invariant_of-self-2 g c =
    let load = rw c.as_slice.ensures.value at c.in_ok-devices.ensures in
    let log = cut (g.L.Log.kept c.args.self.now.log) (g.L.Log.kept c.write.new.self) c.in_ok-bytes.bytes.items c.in_ok-devices.len c.in_ok-bytes.ensures c.in_ok-write.ensures.written in
    record {
      measured = λ _ x some. omega (arith, ap length (log.1 x some), length-take c.in_ok-devices.len c.in_ok-bytes.bytes.items, load.0);
      agrees = λ _ x some. ∣ rw (← log.1 x some) load.2 ∣₁;
    }
