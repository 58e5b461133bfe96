use Rattle.std.proofs.Common.{◌≡◌, ◌+◌, List, [], ◌∷◌, ◌++◌, length, take, sym, ap, subst, ◌∙◌, arith}
use Rattle.std.specs.List.{AllZip, insert}
use Rattle.std.proofs.lemmas.List.{take_all}
use Rattle.std.proofs.lemmas.List.Edits.{insert_end}
use Rattle.std.proofs.lemmas.List.Elements.{all_zip_more, length_all_zip}
use Rattle.iddqd_order.specs.Row.{entries_in, line, position}
use Rattle.iddqd_order.proofs.CloneLemmas.{one_block}
use Rattle.iddqd_order.proofs.blocks.clone.clone_apart.Goals as goal

pub loop-entry-preserved : goal.loop-entry-preserved
loop-entry-preserved g c =
    let at = c.loop-entry in
    let all = c.entries_of-entry-items.result.now in
    let had = entries_in at.copy in
    let made = c.in_ok-clone.field-0 in
    let same : entries_in c.make_room.new.blocks ≡ had = ap line c.make_room.ensures.blocks in
    let behind : position c.make_room.new.blocks.blocks c.end-end.result ≡ length had = c.end-end.ensures.last ∙ ap length same in
    let put : entries_in c.insert.new.self ≡ had ++ made ∷ [] =
    c.insert.ensures.entries ∙ ((λ t. insert (same t) (behind t) made) ∙ insert_end had made) in
    subst (λ (l : List g.row.E.Denot). AllZip g.E.Clone.is_clone (take (at.entry-index + 1) all) l) (sym put)
    (all_zip_more g.E.Clone.is_clone all had at.entry-index c.entry-item.result made c.loop-entry-test.true c.entry-item.is at.invariant c.in_ok-clone.ensures.cases)

pub returns-clause-entries : goal.returns-clause-entries
returns-clause-entries g c =
    let at = c.loop-entry in
    let all = c.entries_of-entry-items.result.now in
    let whole : take at.entry-index all ≡ line c.args.row.now.blocks =
    take_all at.entry-index all (omega (arith, c.loop-entry-test.false)) ∙ c.entries_of-entry-items.ensures.value ∙ sym (one_block c.args.row.now.blocks c.requires) in
    let cloned = subst (λ (l : List g.row.E.Denot). AllZip g.E.Clone.is_clone l (entries_in at.copy)) whole at.invariant in
    subst (λ (l : List g.row.E.Denot). AllZip g.E.Clone.is_clone (line c.args.row.now.blocks) l) (sym (ap line c.lower_capacity.ensures.blocks)) cloned

pub returns-clause-capacity : goal.returns-clause-capacity
returns-clause-capacity g c =
    let at = c.loop-entry in
    let all = c.entries_of-entry-items.result.now in
    let whole : take at.entry-index all ≡ line c.args.row.now.blocks =
    take_all at.entry-index all (omega (arith, c.loop-entry-test.false)) ∙ c.entries_of-entry-items.ensures.value ∙ sym (one_block c.args.row.now.blocks c.requires) in
    let cloned = subst (λ (l : List g.row.E.Denot). AllZip g.E.Clone.is_clone l (entries_in at.copy)) whole at.invariant in
    c.lower_capacity.ensures.capacity ∙ (c.len-count.ensures.value ∙ sym (length_all_zip g.E.Clone.is_clone _ _ cloned))
