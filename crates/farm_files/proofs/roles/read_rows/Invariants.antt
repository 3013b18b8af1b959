use Rattle.std.proofs.Common.{◌≡◌, ℕ, ◌<◌, ◌≤◌, map, take, vec_len}
use Rattle.toml.specs.View.{view}
use Rattle.farm_files.specs.declared.fault.Rule.{Rule}
use Rattle.farm_files.specs.Earlier.{AreIdsOf}
use Rattle.role_expand.specs.Roles.{roles_data}
use Rattle.farm_files.specs.Roles.{role_rows}
use Rattle.farm_files.specs.Rows.{RowAtBreaks, says_of}
use Rattle.farm_files.proofs.roles.read_rows.Given as goal

abbrev pub invariant-loop-row : goal.invariant-loop-row
invariant-loop-row l =
    (roles_data l.roles.items ≡ map (says_of role_rows) (map view (take l.row l.rows)))
    × AreIdsOf (map (λ role. role.id) (map (says_of role_rows) (map view (take l.row l.rows)))) l.ids
    × ((i : ℕ) (rule : Rule) → i < l.row → ¬ RowAtBreaks role_rows (map view l.rows) i rule)
    × (l.row ≤ 10000) × (vec_len l.roles ≡ l.row)
