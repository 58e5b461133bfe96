use Rattle.std.specs.Prelude.{◌<◌, ◌+◌}
use Rattle.std.proofs.Common.{arith, rules}
use Rattle.std.proofs.lemmas.List.Elements.{All-cons, All-tail}
use Rattle.std.proofs.lemmas.List.Sorted.{All-permutation, IsPermutation-sym, length_permutation}
use Rattle.example_cache.specs.declared.pages.Page.{Page}
use Rattle.example_cache.proofs.Uses.{before_next, used_again}
use Rattle.example_cache.proofs.pages.Cache.count_use.Goals as goal

pub invariant_of-self : goal.invariant_of-self
invariant_of-self c =
    let cache = c.args.self.now in
    let moved = used_again _ _ _ c.args.page (record c.args.page { used = cache.clock }) _ c.requires (search rules) c.in-Ok.ensures.replaced cache.before c.in-Ok.ensures.replaces.lists in
    let used : Page → Type 0 = λ (p : Page). p.used < cache.clock + 1 in
    let all = All-cons used (record c.args.page { used = cache.clock }) _ (omega arith) (before_next cache.clock _ cache.before) in
    record {
      some = cache.some;
      bounded = omega (arith, length_permutation _ _ moved, cache.bounded);
      room = search rules;
      before = All-tail used c.args.page _ (All-permutation used _ _ (IsPermutation-sym _ _ moved) all);
    }
