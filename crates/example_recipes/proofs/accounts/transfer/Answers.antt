use Rattle.std.proofs.Common.{◌≡◌, ◌≢◌, ◌+◌, ◌-◌, [], ◌∷◌, filter, arith, rules, sym, ◌∙◌}
use Rattle.iddqd_bi.specs.Map.{bag}
use Rattle.example_recipes.specs.declared.accounts.Account.{Account}
use Rattle.example_recipes.proofs.Paying.{again, both, is_there, numbered, there, wrote}
use Rattle.example_recipes.proofs.accounts.transfer.Goals as goal

the_same : (x a : Account) → x ∷ [] ≡ a ∷ [] → x ≡ a
the_same x a is = cc is

-- each update found its account and wrote it
pub returns-clause-moved : goal.returns-clause-moved
returns-clause-moved c = λ _.
    let a = c.in-Some.payer in
    let b = c.in-Some-copied.payee in
    let from = c.args.from in
    let to = c.args.to in
    let old = bag c.args.accounts.now in
    let mid = bag c.update1.new.self in
    let new = bag c.update1-2.new.self in
    let less = a.balance - c.args.amount in
    let more = b.balance + c.args.amount in
    let apart : from ≢ to = c.if-from-to.false in
    let first : a ∷ [] ≡ filter (numbered from) old = search rules in
    let second : b ∷ [] ≡ filter (numbered to) old = search rules in
    let one = c.update1.ensures.stores (c.update1.ensures.any_found ∙ is_there from old a first) in
    let less_is : one.1 ≡ less = search rules in
    let write = wrote old mid one.0 a one.1 less (the_same one.0 a (one.2 ∙ sym first)) less_is one.4 in
    let sound = c.len.ensures.sound in
    let two = c.update1-2.ensures.stores (c.update1-2.ensures.any_found ∙ there from to less old mid a b apart first second sound write) in
    let more_is : two.1 ≡ more = search rules in
    let last = wrote mid new two.0 b two.1 more (again from to less old mid a b apart first second sound write two.0 two.2) more_is two.4 in
    (a, b, first, second, omega (arith, c.if-payer-amount.false), both from to less old mid a b apart first second sound write new more last)
