use Rattle.std.proofs.Common.{◌≡◌, ℕ, List, sym, ◌∙◌, subst, refl, arith}
use Rattle.std.specs.List.{list_any}
use Rattle.std.specs.Str.{bytes_eq}
use Rattle.std.proofs.lemmas.Bool.{false≢true}
use Rattle.std.specs.Prelude.{All}
use Rattle.scope_sets.specs.Scopes.{HasHandedInForm}
use Rattle.hawk_auth.specs.Clients.{IsClientId, IsToken, client_data}
use Rattle.farm_files.specs.Clients.{IsClientFrom}
use Rattle.toml.specs.Data.{Data}
use Rattle.toml.specs.View.{view, table_view}
use Rattle.farm_files.specs.Earlier.{AreIdsOf}
use Rattle.farm_files.specs.Clients.{client_rows}
use Rattle.farm_files.specs.Rows.{HasRowForm, says_of}
use Rattle.farm_files.proofs.RuleLemmas.{table_is, table_refused, keys_refused, form_refused, id_refused, row_taken}
use Rattle.farm_files.proofs.clients.read_row.Goals as goal

pub returns-in_default : goal.returns-in_default
returns-in_default c = table_refused client_rows c.args.ids.now c.args.row (view c.args.value.now) c.in_default.ensures

pub returns-in-Err : goal.returns-in-Err
returns-in-Err c =
    keys_refused client_rows c.args.ids.now c.args.row (view c.args.value.now) (table_view c.in-Some.keys.now) c.in-Err.fault c.in-Some.ensures c.in-Err.ensures

pub returns-then-row-ge-MOST_ROWS : goal.returns-then-row-ge-MOST_ROWS
returns-then-row-ge-MOST_ROWS c =
    form_refused client_rows c.args.ids.now c.args.row (view c.args.value.now) (table_view c.in-Some.keys.now) c.in-Some.ensures c.in-Ok.ensures.0
    (λ form. omega (arith, form.within, c.if-row-ge-MOST_ROWS.true))

pub returns-then-not-has_client_form : goal.returns-then-not-has_client_form
returns-then-not-has_client_form c =
    form_refused client_rows c.args.ids.now c.args.row (view c.args.value.now) (table_view c.in-Some.keys.now) c.in-Some.ensures c.in-Ok.ensures.0
    (λ form. false≢true (c.if-not-has_client_form.ensures.1 record {
      id_form = subst IsClientId (sym c.in-Ok.ensures.2.id) form.form.id_form;
      token_form = subst IsToken (sym c.in-Ok.ensures.2.token) form.form.token_form;
      scopes_form = subst (λ (ss : List (List ℕ)). All (HasHandedInForm 4096) ss) (sym c.in-Ok.ensures.2.scopes) form.form.scopes_form;
    }))

pub returns-then-has_id : goal.returns-then-has_id
returns-then-has_id c =
    let ms = table_view c.in-Some.keys.now in
    let form : HasRowForm client_rows c.args.row (client_rows.says ms) = record {
      within = c.if-row-ge-MOST_ROWS.false;
      form = record {
        printable = c.in-Ok.ensures.1;
        id_form = subst IsClientId c.in-Ok.ensures.2.id (c.if-not-has_client_form.ensures.0 refl).id_form;
        token_form = subst IsToken c.in-Ok.ensures.2.token (c.if-not-has_client_form.ensures.0 refl).token_form;
        scopes_form = subst (λ (ss : List (List ℕ)). All (HasHandedInForm 4096) ss) c.in-Ok.ensures.2.scopes (c.if-not-has_client_form.ensures.0 refl).scopes_form;
        moment = (_, c.in-Ok.ensures.2.expires);
      };
    } in
    let e : c.as_str.result.now ≡ client_rows.id_of (client_rows.says ms) = c.as_str.ensures ∙ c.in-Ok.ensures.2.id in
    id_refused client_rows c.args.ids.now c.args.row (view c.args.value.now) ms c.in-Some.ensures c.in-Ok.ensures.0 form c.has_id.result c.if-has_id.true
    (subst (λ (x : List ℕ). (used : List (List ℕ)) → AreIdsOf used c.args.ids.now → c.has_id.result ≡ list_any (λ other. bytes_eq x other) used) e c.has_id.ensures)

pub returns : goal.returns
returns c =
    let ms = table_view c.in-Some.keys.now in
    let form : HasRowForm client_rows c.args.row (client_rows.says ms) = record {
      within = c.if-row-ge-MOST_ROWS.false;
      form = record {
        printable = c.in-Ok.ensures.1;
        id_form = subst IsClientId c.in-Ok.ensures.2.id (c.if-not-has_client_form.ensures.0 refl).id_form;
        token_form = subst IsToken c.in-Ok.ensures.2.token (c.if-not-has_client_form.ensures.0 refl).token_form;
        scopes_form = subst (λ (ss : List (List ℕ)). All (HasHandedInForm 4096) ss) c.in-Ok.ensures.2.scopes (c.if-not-has_client_form.ensures.0 refl).scopes_form;
        moment = (_, c.in-Ok.ensures.2.expires);
      };
    } in
    let e : c.as_str.result.now ≡ client_rows.id_of (client_rows.says ms) = c.as_str.ensures ∙ c.in-Ok.ensures.2.id in (
      row_taken client_rows c.args.ids.now c.args.row (view c.args.value.now) ms c.in-Some.ensures c.in-Ok.ensures.0 form c.has_id.result c.if-has_id.false
          (subst (λ (x : List ℕ). (used : List (List ℕ)) → AreIdsOf used c.args.ids.now → c.has_id.result ≡ list_any (λ other. bytes_eq x other) used) e c.has_id.ensures) tt,
      subst (λ (d : Data). IsClientFrom (says_of client_rows d) (client_data c.in-Ok.client)) (sym (table_is (view c.args.value.now) ms c.in-Some.ensures)) c.in-Ok.ensures.2,
    )
