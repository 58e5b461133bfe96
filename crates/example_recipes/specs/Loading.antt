-- What is left over of a batch, of which each item in turn is added with which no item conflicts.
use Rattle.std.specs.Prelude.{List, [], ◌∷◌, length, ◌==◌, if◌then◌else◌}
use Rattle.iddqd_bi.specs.Bag.{Ranks, conflicts_of}

-- The items of a batch that cannot be added to a bag, in their order: each conflicts with an item of the bag, or with one
-- before it in the batch that was added.
abbrev pub left_over : {T : Type 0} → Ranks T → List T → List T → List T
left_over ranks bag [] = []
left_over ranks bag (x ∷ more) =
    if length (conflicts_of ranks bag x) == 0 then left_over ranks (x ∷ bag) more else (x ∷ left_over ranks bag more)
