use Rattle.std.proofs.Common.{◌≡◌, max, ◌∙◌, rules}
use Rattle.task_index.specs.Contents.{Contents}
use Rattle.farm_rows.proofs.TableLemmas.{tick-advances}
use Rattle.farm_rows.proofs.tables.TaskTables.tick.Goals as goal

pub returns : goal.returns
returns c =
    let seen : Contents = record { rows = c.self.inside.rows.items; last = c.self.inside.last; next = c.self.inside.next } in
    let reached : c.max-self-inside.result ≡ max c.self.inside.last c.args.moment = search rules in
    tick-advances c.args.self.now seen c.args.moment c.max-self-inside.result (c.self.view_is ∙ c.resolve_due.ensures) reached
