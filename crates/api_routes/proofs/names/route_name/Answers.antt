use Rattle.std.proofs.Common.{◌≡◌, rules, sym}
use Rattle.std.specs.List.{list_all}
use Rattle.api_routes.specs.Names.{is_printable}
use Rattle.api_routes.proofs.NameLemmas.{printable_test, route_name-no_text}
use Rattle.api_routes.proofs.names.route_name.Goals as goal
use Rattle.api_routes.proofs.names.route_name.Goals.{in_default-via-in-Ok+else-is_printable, in_default-via-in_default}

pub returns-in_default : goal.returns-in_default
returns-in_default c =
    elim c.in_default.branch [
      | in_default-via-in-Ok+else-is_printable w ↦
          let test : w.is_printable.result ≡ list_all is_printable c.args.path.now = printable_test c.args.path.now w.is_printable.result w.is_printable.ensures.0 w.is_printable.ensures.1 in
          search rules
      | in_default-via-in_default w ↦ sym (route_name-no_text c.args.path.now w.in_default.ensures.cases.0)
    ]

pub returns-in-Ok : goal.returns-in-Ok
returns-in-Ok c =
    let test : c.is_printable.result ≡ list_all is_printable c.args.path.now = printable_test c.args.path.now c.is_printable.result c.is_printable.ensures.0 c.is_printable.ensures.1 in
    search rules
