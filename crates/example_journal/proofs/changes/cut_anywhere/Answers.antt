use Rattle.std.specs.Prelude.{◌≡◌, ◌++◌, [], drop, flat_map}
use Rattle.std.proofs.Common.{sym, ap, subst, ◌∙◌}
use Rattle.std.proofs.lemmas.List.{append_assoc, take-append-drop}
use Rattle.example_journal.specs.Changes.{Leads, line_of}
use Rattle.example_journal.proofs.Lines.{first_changes}
use Rattle.example_journal.proofs.changes.cut_anywhere.Goals as goal

-- the lines and the torn one are the first bytes of the text
pub returns : goal.returns
returns c = λ changes at lines torn devices all is told.
    let text = flat_map line_of changes in
    let whole : flat_map line_of told.changes ++ (torn ++ drop at text) ≡ text =
    sym (append_assoc _ torn (drop at text)) ∙ ap (λ l. (l ++ torn) ++ drop at text) (sym told.written) ∙ ap (λ l. l ++ drop at text) (sym is) ∙ take-append-drop at text in
    let first = first_changes told.changes changes (torn ++ drop at text) told.in_range all whole in
    (first.0, told.written ∙ ap (flat_map line_of) first.1, subst (λ cs. Leads [] cs devices) first.1 told.left)
