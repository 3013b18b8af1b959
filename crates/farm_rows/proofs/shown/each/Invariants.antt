use Rattle.std.proofs.Common.{◌≡◌, map, take}
use Rattle.task_index.specs.Plans.{rows_with}
use Rattle.farm_rows.proofs.shown.each.Given as goal

-- those of the names so far are found
abbrev pub invariant-loop-name : goal.invariant-loop-name
invariant-loop-name l = l.found.items ≡ rows_with (map (λ name. name.id) (take l.name-index l.names)) l.rows
