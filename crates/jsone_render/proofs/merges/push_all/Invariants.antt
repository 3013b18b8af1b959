use Rattle.std.proofs.Common.{◌≡◌, ◌++◌}
use Rattle.std.specs.Vec.Iter.{into_iter_items}
use Rattle.farm_text.specs.Doc.{documents}
use Rattle.jsone_render.proofs.merges.push_all.Given as goal

-- what is left to push makes the whole
abbrev pub invariant-loop-value : goal.invariant-loop-value
invariant-loop-value l = documents l.flat.items ++ documents (into_iter_items l.value-iterator) ≡ documents l.initial.flat.items ++ documents l.fn.inner.items
