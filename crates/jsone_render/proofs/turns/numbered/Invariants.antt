use Rattle.std.proofs.Common.{◌≡◌, ◌++◌, length}
use Rattle.std.specs.Vec.Iter.{into_iter_items}
use Rattle.farm_text.specs.Doc.{documents}
use Rattle.jsone_render.specs.Answers.{pairs_of}
use Rattle.jsone_render.specs.Bindings.{numbered}
use Rattle.jsone_render.proofs.turns.numbered.Given as goal

-- the members that are left make the whole
abbrev pub invariant-loop-item : goal.invariant-loop-item
invariant-loop-item l = pairs_of l.turns.items ++ numbered (length (pairs_of l.turns.items)) (documents (into_iter_items l.item-iterator)) ≡ numbered 0 (documents (into_iter_items l.initial.item-iterator))
