-- Which pages a new one replaces.
use Rattle.std.specs.Prelude.{Bool, List, ◌==◌, ◌||◌, not, filter}
use Rattle.std.specs.List.{list_any}
use Rattle.example_cache.specs.declared.pages.Page.{Page}

-- `is_taken` tells whether one of the pages has the number or the frame of x
abbrev pub is_taken : List Page → Page → Bool
is_taken pages x = list_any (λ p. x.number == p.number) pages || list_any (λ p. x.frame == p.frame) pages

-- `others` are the pages that have neither the number nor the frame of x
abbrev pub others : List Page → Page → List Page
others pages x = filter (λ p. not (x.frame == p.frame)) (filter (λ p. not (x.number == p.number)) pages)
