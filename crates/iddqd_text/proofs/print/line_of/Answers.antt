use Rattle.std.proofs.Common.{rules, ◌≡◌, ◌++◌, ℕ, List, sym, subst, codes}
use Rattle.std.specs.Prelude.{OnOk, string_bytes}
use Rattle.iddqd_text.specs.Printed.{printed}
use Rattle.iddqd_text.proofs.Printing.{first_key_word, second_key_word, third_key_word}
use Rattle.iddqd_text.proofs.print.line_of.Goals as goal

pub returns-in-Key1 : goal.returns-in-Key1
returns-in-Key1 g c =
    rw c.in-Key1.is
    (subst (λ (word : List ℕ). OnOk c.item_line-in-Key1.result
    (string_bytes c.item_line-in-Key1.new.line ≡ word ++ printed (g.T.Numbers.numbers c.in-Key1.item) ++ codes "\n")) (sym first_key_word) (search rules))

pub returns-in-Key2 : goal.returns-in-Key2
returns-in-Key2 g c =
    rw c.in-Key2.is
    (subst (λ (word : List ℕ). OnOk c.item_line-in-Key2.result
    (string_bytes c.item_line-in-Key2.new.line ≡ word ++ printed (g.T.Numbers.numbers c.in-Key2.item) ++ codes "\n")) (sym second_key_word) (search rules))

pub returns-in-Key3 : goal.returns-in-Key3
returns-in-Key3 g c =
    rw c.in-Key3.is
    (subst (λ (word : List ℕ). OnOk c.item_line-in-Key3.result
    (string_bytes c.item_line-in-Key3.new.line ≡ word ++ printed (g.T.Numbers.numbers c.in-Key3.item) ++ codes "\n")) (sym third_key_word) (search rules))
