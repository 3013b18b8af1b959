use Rattle.std.proofs.Common.{rules, refl, Some, None}
use Rattle.std.proofs.lemmas.Int.{ints, to_z-of_z}
use Rattle.toml.proofs.Views.{table_get}
use Rattle.farm_files.proofs.values.whole_or.Goals as goal

pub returns-in-None : goal.returns-in-None
returns-in-None c =
    let e = table_get None c.args.key.now c.args.table.now.entries c.in-None.ensures.value in rw (← e) (refl, search (rules, ints, to_z-of_z))

pub returns-in-Some-as_integer : goal.returns-in-Some-as_integer
returns-in-Some-as_integer c =
    let e = table_get (Some c.in-Some.value) c.args.key.now c.args.table.now.entries c.in-Some.ensures.value in rw (← e, ← c.in-Some-as_integer.ensures) (refl, search (rules, ints, to_z-of_z))

pub returns-in-None-as_integer : goal.returns-in-None-as_integer
returns-in-None-as_integer c =
    let e = table_get (Some c.in-Some.value) c.args.key.now c.args.table.now.entries c.in-Some.ensures.value in rw (← e, ← c.in-None-as_integer.ensures) (refl, refl)
