use Rattle.std.proofs.Common.{◌≡◌, ℕ, List, sym, ap, ◌∙◌, subst, refl, arith}
use Rattle.std.specs.List.{list_any}
use Rattle.std.specs.Str.{bytes_eq}
use Rattle.std.proofs.lemmas.Bool.{false≢true}
use Rattle.role_expand.specs.Roles.{RoleData, role_data, HasRoleForm}
use Rattle.toml.specs.Data.{Data}
use Rattle.toml.specs.View.{view, table_view}
use Rattle.farm_files.specs.Earlier.{AreIdsOf}
use Rattle.farm_files.specs.Roles.{role_rows}
use Rattle.farm_files.specs.Rows.{HasRowForm, says_of}
use Rattle.farm_files.proofs.RuleLemmas.{table_is, table_refused, keys_refused, form_refused, id_refused, row_taken}
use Rattle.farm_files.proofs.roles.read_row.Goals as goal

pub returns-in_default : goal.returns-in_default
returns-in_default c = table_refused role_rows c.args.ids.now c.args.row (view c.args.value.now) c.in_default.ensures

pub returns-in-Err : goal.returns-in-Err
returns-in-Err c =
    keys_refused role_rows c.args.ids.now c.args.row (view c.args.value.now) (table_view c.in-Some.keys.now) c.in-Err.fault c.in-Some.ensures c.in-Err.ensures

pub returns-then-row-ge-MOST_ROWS : goal.returns-then-row-ge-MOST_ROWS
returns-then-row-ge-MOST_ROWS c =
    form_refused role_rows c.args.ids.now c.args.row (view c.args.value.now) (table_view c.in-Some.keys.now) c.in-Some.ensures c.in-Ok.ensures.0
    (λ form. omega (arith, form.within, c.if-row-ge-MOST_ROWS.true))

pub returns-then-not-has_role_form : goal.returns-then-not-has_role_form
returns-then-not-has_role_form c =
    form_refused role_rows c.args.ids.now c.args.row (view c.args.value.now) (table_view c.in-Some.keys.now) c.in-Some.ensures c.in-Ok.ensures.0
    (λ form. false≢true (c.if-not-has_role_form.ensures.1 (subst (λ (r : RoleData). HasRoleForm 4096 r) (sym c.in-Ok.ensures.2) form.form.form)))

pub returns-then-has_id : goal.returns-then-has_id
returns-then-has_id c =
    let ms = table_view c.in-Some.keys.now in
    let form : HasRowForm role_rows c.args.row (role_rows.says ms) = record {
      within = c.if-row-ge-MOST_ROWS.false;
      form = record { printable = c.in-Ok.ensures.1; form = subst (λ (r : RoleData). HasRoleForm 4096 r) c.in-Ok.ensures.2 (c.if-not-has_role_form.ensures.0 refl) };
    } in
    let e : c.as_str.result.now ≡ role_rows.id_of (role_rows.says ms) = c.as_str.ensures.value ∙ ap (λ (r : RoleData). r.id) c.in-Ok.ensures.2 in
    id_refused role_rows c.args.ids.now c.args.row (view c.args.value.now) ms c.in-Some.ensures c.in-Ok.ensures.0 form c.has_id.result c.if-has_id.true
    (subst (λ (x : List ℕ). (used : List (List ℕ)) → AreIdsOf used c.args.ids.now → c.has_id.result ≡ list_any (λ other. bytes_eq x other) used) e c.has_id.ensures)

pub returns : goal.returns
returns c =
    let ms = table_view c.in-Some.keys.now in
    let form : HasRowForm role_rows c.args.row (role_rows.says ms) = record {
      within = c.if-row-ge-MOST_ROWS.false;
      form = record { printable = c.in-Ok.ensures.1; form = subst (λ (r : RoleData). HasRoleForm 4096 r) c.in-Ok.ensures.2 (c.if-not-has_role_form.ensures.0 refl) };
    } in
    let e : c.as_str.result.now ≡ role_rows.id_of (role_rows.says ms) = c.as_str.ensures.value ∙ ap (λ (r : RoleData). r.id) c.in-Ok.ensures.2 in (
      row_taken role_rows c.args.ids.now c.args.row (view c.args.value.now) ms c.in-Some.ensures c.in-Ok.ensures.0 form c.has_id.result c.if-has_id.false
          (subst (λ (x : List ℕ). (used : List (List ℕ)) → AreIdsOf used c.args.ids.now → c.has_id.result ≡ list_any (λ other. bytes_eq x other) used) e c.has_id.ensures) tt,
      subst (λ (d : Data). role_data c.in-Ok.role ≡ says_of role_rows d) (sym (table_is (view c.args.value.now) ms c.in-Some.ensures)) c.in-Ok.ensures.2,
    )
