use Rattle.std.proofs.Common.{◌≡◌, ◌++◌, map}
use Rattle.std.specs.Vec.Iter.{into_iter_items}
use Rattle.farm_text.specs.Doc.{documents}
use Rattle.jsone_render.specs.Answers.{pairs_of}
use Rattle.jsone_render.proofs.sorting.values_of.Given as goal

-- the pairs that are left make the whole
abbrev pub invariant-loop-key : goal.invariant-loop-key
invariant-loop-key l = documents l.values.items ++ map (λ q. q.1) (pairs_of (into_iter_items l.key-iterator)) ≡ map (λ q. q.1) (pairs_of l.fn.pairs.items)
