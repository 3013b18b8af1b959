use Rattle.toml.specs.View.{view}
use Rattle.farm_files.proofs.RowLemmas.{array_texts}
use Rattle.farm_files.proofs.scopes.texts_at.Goals as goal

pub returns-in-Some : goal.returns-in-Some
returns-in-Some c =
    let e = array_texts (view c.args.value.now) c.deref.result.now c.in-Some.values.now.items c.in-Some.ensures c.deref.ensures.value in
    rw (e.0, e.1) c.texts_of.ensures
