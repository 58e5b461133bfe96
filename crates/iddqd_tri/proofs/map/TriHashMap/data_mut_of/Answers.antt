-- Made by tests/widths from crates/iddqd_bi/proofs/map/BiHashMap/data_mut_of/Answers.antt: change that file.
use Rattle.std.proofs.Common.{refl, ap, sym, ◌∙◌}
use Rattle.std.specs.Option.{option_and_then}
use Rattle.iddqd_store.specs.Slots.{get}
use Rattle.iddqd_tri.proofs.map.TriHashMap.data_mut_of.Goals as goal

pub returns-in-Some : goal.returns-in-Some
returns-in-Some g c = (
  rw c.in-Some.is refl,
  record {
    writes_back = tt;
    some = rw c.in-Some.is refl;
    sound = rw c.in-Some.is c.data_mut_at.ensures.sound;
    value = λ x is. c.data_mut_at.ensures.value x (sym (ap (option_and_then (get c.args.self.now.slots)) c.in-Some.is) ∙ is);
    swaps = λ x d is. rw c.in-Some.is (c.data_mut_at.ensures.swaps x d (sym (ap (option_and_then (get c.args.self.now.slots)) c.in-Some.is) ∙ is));
  },
)
