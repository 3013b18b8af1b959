use Rattle.std.proofs.Common.{refl, Some, None}
use Rattle.toml.proofs.Views.{table_get}
use Rattle.farm_files.proofs.values.truth_or.Goals as goal

pub returns-in-None : goal.returns-in-None
returns-in-None c =
    let e = table_get None c.args.key.now c.args.table.now.entries c.in-None.ensures.value in rw (← e) (refl, refl)

pub returns-in-Some-as_bool : goal.returns-in-Some-as_bool
returns-in-Some-as_bool c =
    let e = table_get (Some c.in-Some.value) c.args.key.now c.args.table.now.entries c.in-Some.ensures.value in rw (← e, ← c.in-Some-as_bool.ensures) (refl, refl)

pub returns-in-None-as_bool : goal.returns-in-None-as_bool
returns-in-None-as_bool c =
    let e = table_get (Some c.in-Some.value) c.args.key.now c.args.table.now.entries c.in-Some.ensures.value in rw (← e, ← c.in-None-as_bool.ensures) (refl, refl)
