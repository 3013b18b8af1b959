use Rattle.std.proofs.Common.{◌≡◌, ◌++◌, map}
use Rattle.std.specs.Vec.Iter.{into_iter_items}
use Rattle.farm_text.specs.Doc.{documents}
use Rattle.jsone_render.specs.Answers.{pairs_of}
use Rattle.jsone_render.proofs.sorting.doubled.Given as goal

-- the members that are left make the whole
abbrev pub invariant-loop-item : goal.invariant-loop-item
invariant-loop-item l = pairs_of l.pairs.items ++ map (λ d. (d, d)) (documents (into_iter_items l.item-iterator)) ≡ map (λ d. (d, d)) (documents l.fn.items.items)
