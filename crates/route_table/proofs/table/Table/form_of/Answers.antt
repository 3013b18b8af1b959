use Rattle.std.proofs.Common.{◌∙◌}
use Rattle.route_table.proofs.RouteLemmas.{masked_found}
use Rattle.route_table.proofs.table.Table.form_of.Goals as goal

pub returns-in_ok-masked-in-Err : goal.returns-in_ok-masked-in-Err
returns-in_ok-masked-in-Err c =
    masked_found c.args.path.now c.as_str.result.now c.find-in-Err.result (c.as_str.ensures.value ∙ c.in_ok-masked-in-Err.ensures) c.find-in-Err.ensures
