use Rattle.std.proofs.Common.{List, ap, sym, refl, ◌∙◌}
use Rattle.std.specs.Prelude.{slice_get}
use Rattle.std.specs.Option.{option_map}
use Rattle.iddqd_store.proofs.SlotLemmas.Entries.{part_there}
use Rattle.iddqd_store.specs.Map.Walk.{one_fewer}
use Rattle.iddqd_bi.proofs.Iterating.{steps_to, counted_on}
use Rattle.iddqd_bi.specs.IterMuts.{IsNextOf}
use Rattle.iddqd_bi.proofs.iter_mut.IterMut.next_data.Goals as goal

pub returns : goal.returns
returns g c =
    let step = c.in_ok-live.ensures.first_from in
    let pass = c.in_ok-live.ensures.next.2 in
    let next : IsNextOf c.args.self.now = (
      c.in_ok-live.ensures.next.0,
      record {
        comes = rw step pass.comes;
        before = λ f. rw step (pass.before f);
        behind = λ f. rw step (pass.behind f);
      },
    ) in (
      steps_to c.args.self.now (λ w x. g.T.BiHashItemMut.put x w) c.data_mut_at.result.ghost_name c.in_ok-live.live c.number.result (one_fewer c.args.self.now.left) c.number.ensures.value refl step,
      record {
        lends = tt;
        next = next;
        value = part_there g.T.BiHashItemMut.data_of _ _ c.in_ok-live.ensures.live c.data_mut_at.ensures.value
            ∙ ap (option_map g.T.BiHashItemMut.data_of) (c.in_ok-live.ensures.next.1 ∙ sym (ap (λ (l : List g.row.T.Denot). slice_get l 0) pass.comes));
        end = tt;
        counted = λ f is. counted_on c.args.self.now c.fits-self.1.1.0.1 f is next;
      },
    )
