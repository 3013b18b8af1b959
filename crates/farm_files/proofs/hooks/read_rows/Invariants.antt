use Rattle.std.proofs.Common.{ℕ, ◌<◌, ◌≤◌, map, take}
use Rattle.toml.specs.View.{view}
use Rattle.farm_files.specs.declared.fault.Rule.{Rule}
use Rattle.farm_files.specs.Earlier.{AreIdsOf}
use Rattle.hook_book.specs.Hooks.{hooks_data}
use Rattle.farm_files.specs.Hooks.{AreHooks, hook_rows, name_of}
use Rattle.farm_files.specs.Rows.{RowAtBreaks, says_of}
use Rattle.farm_files.proofs.hooks.read_rows.Given as goal

abbrev pub invariant-loop-row : goal.invariant-loop-row
invariant-loop-row l =
    AreHooks (map (says_of hook_rows) (map view (take l.row l.rows))) (hooks_data l.hooks.items)
    × AreIdsOf (map name_of (map (says_of hook_rows) (map view (take l.row l.rows)))) l.names
    × ((i : ℕ) (rule : Rule) → i < l.row → ¬ RowAtBreaks hook_rows (map view l.rows) i rule)
    × (l.row ≤ 10000)
