use Rattle.std.proofs.Common.{◌≡◌, Some, refl, sym, ap, ◌∙◌}
use Rattle.std.proofs.lemmas.Option.{get_or_from_slice_get, slice_get_within}
use Rattle.std.specs.Prelude.{slice_get}
use Rattle.iddqd_ord.specs.Entries.{found_index}
use Rattle.iddqd_ord.specs.Items.{items}
use Rattle.iddqd_order.specs.Row.{position}
use Rattle.iddqd_ord.proofs.RefLemmas.{set_read}
use Rattle.iddqd_ord.proofs.entry.OccupiedEntry.insert.Goals as goal

pub replace_in-requires-clause-same_key : goal.replace_in-requires-clause-same_key
replace_in-requires-clause-same_key g c = λ d.
    (let o = c.args.self.now in
    let same = sym (c.cmp.ensures ∙ (λ t. g.T.Key.Ord.cmp (c.key.ensures t) (c.key-2.ensures t))) ∙ c.in-Equal.is in
    rw (get_or_from_slice_get (items o.map.now) (found_index o) c.get.result.now d c.get.ensures) same)

pub returns-in-Equal : goal.returns-in-Equal
returns-in-Equal g c =
    let o = c.args.self.now in
    let i = found_index o in
    let x = c.get.result.now in
    let put = c.replace_in.ensures in
    let new = c.replace_in.new.self in
    let within = slice_get_within (items o.map.now) i x c.get.ensures in
    let read = put.item x ∙ get_or_from_slice_get (items o.map.now) i x x c.get.ensures in
    let same = sym (c.cmp.ensures ∙ (λ t. g.T.Key.Ord.cmp (c.key.ensures t) (c.key-2.ensures t))) ∙ c.in-Equal.is in
    let index : position new.blocks o.place ≡ i = put.at in
    record {
      displaced = c.get.ensures ∙ ap Some (sym read);
      same_key = rw read same;
      puts_over = record {
        same_map = refl;
        lists = put.replaced;
        item = ap (slice_get (items new)) index ∙ set_read (items o.map.now) (items new) i c.args.item within put.replaced;
        same_index = index;
        has_item = put.entry;
        capacity = put.capacity;
      };
      handed_back = tt;
      reason = tt;
      unchanged = tt;
    }

pub returns-in_default-clause-reason : goal.returns-in_default-clause-reason
returns-in_default-clause-reason g c =
    rw c.get.ensures (λ e. c.in_default.not-Equal (c.cmp.ensures ∙ (λ t. g.T.Key.Ord.cmp (c.key.ensures t) (c.key-2.ensures t)) ∙ e))
