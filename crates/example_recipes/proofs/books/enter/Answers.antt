use Rattle.std.specs.Prelude.{◌≡◌, IsOk}
use Rattle.std.proofs.Common.{refl, sym, subst, ◌∙◌}
use Rattle.iddqd_bi.specs.Map.{Gains}
use Rattle.example_recipes.specs.declared.books.Book.{Book}
use Rattle.example_recipes.proofs.OrderLemmas.{is_ok-yes, on_err, on_ok}
use Rattle.example_recipes.proofs.books.enter.Goals as goal

-- the orders that are lent are those of the book, and what is written is theirs
pub returns-in-Some-clause-entered : goal.returns-in-Some-clause-entered
returns-in-Some-clause-entered c = λ done.
    let it = c.in-Some.ensures.value in
    let orders = c.try_insert.new.self in
    let gained = on_ok {P = Gains 1 c.in-Some.orders.now c.args.order orders} c.try_insert.result (sym c.is_ok.ensures.value ∙ done) c.try_insert.ensures.gains in
    (it.0, record it.0 { orders = orders }, it.1, refl, refl, rw it.2 at gained.items, c.in-Some.ensures.swaps it.0 orders it.1)

-- the only book with the name is the one of which they are
pub returns-in-Some-clause-granted : goal.returns-in-Some-clause-granted
returns-in-Some-clause-granted c = λ b is free room.
    let it = c.in-Some.ensures.value in
    let same : it.0 ≡ b = cc (it.1, is) in
    let theirs : c.in-Some.orders.now ≡ b.orders = subst (λ (a : Book). c.in-Some.orders.now ≡ a.orders) same it.2 in
    let granted : IsOk c.try_insert.result = c.try_insert.ensures.granted (rw theirs free) (rw theirs room) in
    c.is_ok.ensures.value ∙ is_ok-yes c.try_insert.result granted

-- an order that is refused leaves the orders of the book as they were
pub returns-in-Some-clause-refused : goal.returns-in-Some-clause-refused
returns-in-Some-clause-refused c = λ b is refused.
    let it = c.in-Some.ensures.value in
    let orders = c.try_insert.new.self in
    let same : it.0 ≡ b = cc (it.1, is) in
    let theirs : c.in-Some.orders.now ≡ b.orders = subst (λ (a : Book). c.in-Some.orders.now ≡ a.orders) same it.2 in
    let stayed = on_err {P = orders ≡ c.in-Some.orders.now} c.try_insert.result (sym c.is_ok.ensures.value ∙ refused) c.try_insert.ensures.unchanged in
    (record b { orders = orders }, refl, refl, stayed ∙ theirs, c.in-Some.ensures.swaps b orders is)
