use Rattle.route_table.proofs.RouteLemmas.{no_form, no_method, fits_found}
use Rattle.route_table.proofs.table.Table.route.Goals as goal

pub returns-in_default : goal.returns-in_default
returns-in_default c = no_form c.args.method.now c.args.path.now (rw c.in_default.is at c.in_ok-form.ensures)

pub returns-in_default-route_of : goal.returns-in_default-route_of
returns-in_default-route_of c =
    no_method c.args.method.now c.args.path.now c.in-Some.form (rw c.in-Some.is at c.in_ok-form.ensures) c.in_default-route_of.ensures

pub returns : goal.returns
returns c =
    let kept = c.in-Some-route_of.ensures in
    fits_found c.in-Some-route_of.route c.in-Some.form c.args.method.now c.args.path.now _ _ (rw c.in-Some.is at c.in_ok-form.ensures) kept.0 kept.1 c.text.ensures.spells c.in_ok-parameters.ensures
