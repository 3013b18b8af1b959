use Rattle.std.proofs.Common.{ap, Some, None}
use Rattle.std.specs.Prelude.{is_some}
use Rattle.toml.proofs.Views.{table_get}
use Rattle.farm_files.proofs.values.has_key.Goals as goal

pub returns-in-Some : goal.returns-in-Some
returns-in-Some c = ap is_some (table_get (Some c.in-Some.field-0) c.args.key.now c.args.table.now.entries c.in-Some.ensures.value)

pub returns-in-None : goal.returns-in-None
returns-in-None c = ap is_some (table_get None c.args.key.now c.args.table.now.entries c.in-None.ensures.value)
