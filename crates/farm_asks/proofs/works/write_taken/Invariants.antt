use Rattle.std.proofs.Common.{◌≡◌, ◌++◌, map, drop}
use Rattle.farm_text.specs.Document.{items_of}
use Rattle.task_statuses.specs.Tokens.{tokens_of_items}
use Rattle.farm_asks.specs.Works.{taken_doc}
use Rattle.farm_asks.proofs.works.write_taken.Given as goal

-- what is left to be written makes the whole
abbrev pub invariant-loop-row : goal.invariant-loop-row
invariant-loop-row l =
    (l.out.before ≡ l.initial.out.before)
    × (l.out.tokens ++ tokens_of_items (items_of (map taken_doc (drop l.row-index l.rows))) ≡ l.initial.out.tokens ++ tokens_of_items (items_of (map taken_doc l.rows)))
