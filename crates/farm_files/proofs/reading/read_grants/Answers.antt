use Rattle.std.proofs.Common.{ℕ, List, ◌∙◌, subst}
use Rattle.std.specs.Prelude.{codes}
use Rattle.std.proofs.lemmas.Result.{err_from_is_err_and}
use Rattle.role_expand.specs.Roles.{RoleData, roles_data}
use Rattle.toml.specs.Data.{get_member}
use Rattle.toml.specs.View.{table_view}
use Rattle.farm_files.specs.Roles.{LiesOnCycle}
use Rattle.farm_files.proofs.FarmLemmas.{refuses_rows, refuses_cycle, forms, apart}
use Rattle.farm_files.proofs.reading.read_grants.Goals as goal

pub returns-in_err-roles : goal.returns-in_err-roles
returns-in_err-roles c =
    let p = err_from_is_err_and c.from_residual.result c.from_residual.ensures.1 in
    rw (p.1, p.2) (refuses_rows (table_view c.args.top.now) c.requires.only c.requires.farm c.in_err-roles.field-0.0 c.in_err-roles.ensures)

pub role_set-requires-clause-forms : goal.role_set-requires-clause-forms
role_set-requires-clause-forms c = forms (get_member (codes "role") (table_view c.args.top.now)) (roles_data c.in_ok-roles.roles.items) c.in_ok-roles.ensures.1 c.in_ok-roles.ensures.0

pub role_set-requires-clause-apart : goal.role_set-requires-clause-apart
role_set-requires-clause-apart c = apart (get_member (codes "role") (table_view c.args.top.now)) (roles_data c.in_ok-roles.roles.items) c.in_ok-roles.ensures.1 c.in_ok-roles.ensures.0

pub returns-in_err-set : goal.returns-in_err-set
returns-in_err-set c =
    let p = err_from_is_err_and c.from_residual-in_err-set.result c.from_residual-in_err-set.ensures.1 in
    rw (p.1, p.2)
    (refuses_cycle (table_view c.args.top.now) c.requires.only c.requires.farm c.in_ok-roles.ensures.0 (roles_data c.in_ok-roles.roles.items) c.in_ok-roles.ensures.1 c.in_err-set.field-0.0 c.in_err-set.ensures)

pub returns : goal.returns
returns c = (
  c.in_ok-roles.ensures.0,
  subst (λ (rs : List RoleData). (row : ℕ) → ¬ LiesOnCycle rs row) c.in_ok-roles.ensures.1 c.in_ok-set.ensures.1,
  c.in_ok-new.ensures ∙ c.in_ok-set.ensures.0 ∙ c.in_ok-roles.ensures.1,
)
