use Rattle.std.proofs.Common.{rules, refl}
use Rattle.example_calls.proofs.counts.count_word.Goals as goal

-- the word that goes in has the text that was asked for
pub returns-in-Ok-insert-clause-went_in : goal.returns-in-Ok-insert-clause-went_in
returns-in-Ok-insert-clause-went_in c = λ none. (record { text = c.in-Ok.text; count = 1 }, search rules, refl, search rules)
