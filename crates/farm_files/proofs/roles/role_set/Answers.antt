use Rattle.std.proofs.Common.{◌∷◌, arith}
use Rattle.std.proofs.lemmas.List.{length-map}
use Rattle.role_expand.specs.Roles.{role_data, roles_data}
use Rattle.farm_files.proofs.RowLemmas.{on_cycle_within, first_place}
use Rattle.farm_files.proofs.roles.role_set.Goals as goal

pub overflow_cast-row : goal.overflow_cast-row
overflow_cast-row c =
    let r = rw c.in-Err-ParameterCycle.field-0-is at c.in-Err-ParameterCycle.ensures in
    let same = first_place _ r.2.0 r.2.1 _ r.2.2 c.index.ensures in
    let within = on_cycle_within (roles_data c.args.roles.items) r.2.0 r.2.1 r.2.3.cycle in
    omega (arith, same, within, length-map c.args.roles.items role_data, c.args.roles.ok.0, c.requires.few)

pub unreachable-requires-in-Err-DuplicateRole : goal.unreachable-requires-in-Err-DuplicateRole
unreachable-requires-in-Err-DuplicateRole c =
    let r = rw c.in-Err-DuplicateRole.field-0-is at c.in-Err-DuplicateRole.ensures in
    c.requires.apart c.in-Err-DuplicateRole.field-0-0 c.in-Err-DuplicateRole.field-0-1 r.1

pub returns-in-Ok : goal.returns-in-Ok
returns-in-Ok c = (c.in-Ok.ensures.0, λ row h. c.in-Ok.ensures.1.acyclic (row ∷ h.0) h.1)
