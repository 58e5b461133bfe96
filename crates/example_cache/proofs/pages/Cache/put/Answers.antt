use Rattle.std.specs.Prelude.{◌≡◌, ℕ, ◌+◌, ◌-◌, [], ◌∷◌, List, length, Contains}
use Rattle.std.proofs.Common.{ap, arith, refl, subst}
use Rattle.std.proofs.lemmas.List.{length-append}
use Rattle.std.proofs.lemmas.List.Elements.{Contains-push}
use Rattle.iddqd_sorted.specs.Items.{items}
use Rattle.example_cache.specs.declared.pages.Page.{Page}
use Rattle.example_cache.proofs.Uses.{before_now, before_put}
use Rattle.example_cache.proofs.pages.Cache.put.Goals as goal

-- the page as it goes in
abbrev stamped : Page → ℕ → Page
stamped page clock = record page { used = clock }

pub insert-requires-2-clause-before : goal.insert-requires-2-clause-before
insert-requires-2-clause-before c =
    before_now _ (stamped c.args.page c.args.self.now.clock) c.args.self.now.clock _ _ c.make_place-gone.ensures.gone c.args.self.now.before

pub invariant_of-self-2-clause-before : goal.invariant_of-self-2-clause-before
invariant_of-self-2-clause-before c =
    rw c.insert-2.ensures.came (before_put _ (stamped c.args.page c.args.self.now.clock) c.args.self.now.clock _ _ c.make_place-gone.ensures.gone c.args.self.now.before refl)

pub invariant_of-self-2-clause-bounded : goal.invariant_of-self-2-clause-bounded
invariant_of-self-2-clause-bounded c =
    let came = ap (λ (pages : List Page). length pages) c.insert-2.ensures.came in
    let long = length-append (items c.make_place-gone.new.pages) (stamped c.args.page c.args.self.now.clock ∷ []) in
    omega (arith, came, long, c.make_place-gone.ensures.place)

pub returns-clause-newest : goal.returns-clause-newest
returns-clause-newest c =
    let clock = c.args.self.now.clock in
    let at : clock ≡ clock + 1 - 1 = omega arith in
    subst (λ t. Contains (items c.insert-2.new.pages) (stamped c.args.page t)) at (rw c.insert-2.ensures.came (Contains-push _ (stamped c.args.page clock)))
