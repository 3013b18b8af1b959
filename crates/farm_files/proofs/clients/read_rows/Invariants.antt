use Rattle.std.proofs.Common.{ℕ, ◌<◌, ◌≤◌, map, take}
use Rattle.toml.specs.View.{view}
use Rattle.farm_files.specs.declared.fault.Rule.{Rule}
use Rattle.farm_files.specs.Earlier.{AreIdsOf}
use Rattle.hawk_auth.specs.Clients.{clients_data}
use Rattle.farm_files.specs.Clients.{AreClients, client_rows}
use Rattle.farm_files.specs.Rows.{RowAtBreaks, says_of}
use Rattle.farm_files.proofs.clients.read_rows.Given as goal

abbrev pub invariant-loop-row : goal.invariant-loop-row
invariant-loop-row l =
    AreClients (map (says_of client_rows) (map view (take l.row l.rows))) (clients_data l.clients.items)
    × AreIdsOf (map (λ text. text.id) (map (says_of client_rows) (map view (take l.row l.rows)))) l.ids
    × ((i : ℕ) (rule : Rule) → i < l.row → ¬ RowAtBreaks client_rows (map view l.rows) i rule)
    × (l.row ≤ 10000)
