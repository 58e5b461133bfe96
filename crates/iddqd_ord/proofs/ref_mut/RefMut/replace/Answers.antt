use Rattle.std.proofs.Common.{Some, refl, sym, ap, ◌∙◌}
use Rattle.std.proofs.lemmas.Option.{get_or_from_slice_get, slice_get_within}
use Rattle.std.specs.Prelude.{slice_get}
use Rattle.iddqd_ord.specs.Items.{items}
use Rattle.iddqd_ord.specs.RefMuts.{ref_index}
use Rattle.iddqd_ord.proofs.RefLemmas.{set_read}
use Rattle.iddqd_ord.proofs.ref_mut.RefMut.replace.Goals as goal

pub replace_in-requires-clause-same_key : goal.replace_in-requires-clause-same_key
replace_in-requires-clause-same_key g c = λ d.
    (let r = c.args.self.now in
    let same = sym (c.cmp.ensures ∙ (λ t. g.T.Key.Ord.cmp (c.key.ensures t) (c.key-2.ensures t))) ∙ c.in-Equal.is in
    rw (get_or_from_slice_get (items r.map.now) (ref_index r) c.deref.result.now d c.deref.ensures) same)

pub returns-in-Equal-clause-replaces : goal.returns-in-Equal-clause-replaces
returns-in-Equal-clause-replaces g c =
    let r = c.args.self.now in
    let i = ref_index r in
    let x = c.deref.result.now in
    let put = c.replace_in.ensures in
    let new = c.replace_in.new.self in
    let within = slice_get_within (items r.map.now) i x c.deref.ensures in
    let read = put.item x ∙ get_or_from_slice_get (items r.map.now) i x x c.deref.ensures in
    let same = sym (c.cmp.ensures ∙ (λ t. g.T.Key.Ord.cmp (c.key.ensures t) (c.key-2.ensures t))) ∙ c.in-Equal.is in
    record {
      same_map = refl;
      old = c.deref.ensures ∙ ap Some (sym read);
      new = ap (slice_get (items new)) put.at ∙ set_read (items r.map.now) (items new) i c.args.item within put.replaced;
      lists = put.replaced;
      same_index = put.at;
      same_key = rw read same;
      capacity = put.capacity;
    }

pub returns-in_default : goal.returns-in_default
returns-in_default g c = record {
  replaces = tt;
  handed_back = refl;
  reason = rw c.deref.ensures (λ e. c.in_default.not-Equal (c.cmp.ensures ∙ (λ t. g.T.Key.Ord.cmp (c.key.ensures t) (c.key-2.ensures t)) ∙ e));
  unchanged = refl;
}
