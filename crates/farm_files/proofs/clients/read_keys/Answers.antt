use Rattle.std.proofs.Common.{◌≡◌, ℕ, List, Bor, map, sym, ap, ◌∙◌, subst}
use Rattle.std.specs.Prelude.{All}
use Rattle.std.proofs.lemmas.Bool.{false≢true}
use Rattle.farm_text.specs.DateTime.{IsDateTime}
use Rattle.scope_sets.specs.Scopes.{IsPrintable}
use Rattle.hawk_auth.specs.Clients.{ClientData}
use Rattle.toml.specs.View.{table_view}
use Rattle.farm_files.specs.Clients.{HasClientKinds, IsClientFrom, client_in, client_rows}
use Rattle.farm_files.specs.Parts.{HasRow}
use Rattle.farm_files.proofs.clients.read_keys.Goals as goal

pub returns-in_default : goal.returns-in_default
returns-in_default c = (sym c.if-not-has_known_keys.ensures, sym c.if-not-has_required_keys.ensures, λ k. false≢true (sym c.in_default.ensures.1 ∙ k.id))

pub returns-in_default-text_or : goal.returns-in_default-text_or
returns-in_default-text_or c =
    (sym c.if-not-has_known_keys.ensures, sym c.if-not-has_required_keys.ensures, λ k. false≢true (sym c.in_default-text_or.ensures.1 ∙ k.token))

pub returns-in_default-text_or-2 : goal.returns-in_default-text_or-2
returns-in_default-text_or-2 c =
    (sym c.if-not-has_known_keys.ensures, sym c.if-not-has_required_keys.ensures, λ k. false≢true (sym c.in_default-text_or-2.ensures.1 ∙ k.expires))

pub returns-in_default-truth_or : goal.returns-in_default-truth_or
returns-in_default-truth_or c =
    (sym c.if-not-has_known_keys.ensures, sym c.if-not-has_required_keys.ensures, λ k. false≢true (sym c.in_default-truth_or.ensures.1 ∙ k.disabled))

pub returns-in-Ok-None : goal.returns-in-Ok-None
returns-in-Ok-None c =
    (sym c.if-not-has_known_keys.ensures, sym c.if-not-has_required_keys.ensures, λ k. false≢true (sym (rw c.in-Ok-None.field-0-is at c.in-Ok-None.ensures) ∙ k.scopes))

pub returns-in-Ok-None-scopes_of : goal.returns-in-Ok-None-scopes_of
returns-in-Ok-None-scopes_of c =
    let ms = table_view c.args.row.now in
    let listed = rw c.in-Ok-Some.field-0-is at c.in-Ok-Some.ensures in
    let kinds : HasClientKinds ms = record {
      id = c.in-Ok.ensures.0;
      token = c.in-Ok-text_or.ensures.0;
      scopes = listed.0;
      expires = c.in-Ok-text_or-2.ensures.0;
      disabled = c.in-Ok-truth_or.ensures.0;
    } in
    let has : HasRow client_rows ms = record { only = sym c.if-not-has_known_keys.ensures; keys = sym c.if-not-has_required_keys.ensures; kinds = kinds } in
    let texts = ap (λ (ts : List (Bor (List ℕ))). map (λ t. t.now) ts) c.deref.ensures.value ∙ listed.1 in
    (has, λ form. (rw c.in-Ok-None-scopes_of.field-0-is at c.in-Ok-None-scopes_of.ensures) (subst (λ (ss : List (List ℕ)). All (All IsPrintable) ss) (sym texts) form.printable))

pub returns-in_default-read_moment : goal.returns-in_default-read_moment
returns-in_default-read_moment c =
    let ms = table_view c.args.row.now in
    let listed = rw c.in-Ok-Some.field-0-is at c.in-Ok-Some.ensures in
    let kinds : HasClientKinds ms = record {
      id = c.in-Ok.ensures.0;
      token = c.in-Ok-text_or.ensures.0;
      scopes = listed.0;
      expires = c.in-Ok-text_or-2.ensures.0;
      disabled = c.in-Ok-truth_or.ensures.0;
    } in
    let has : HasRow client_rows ms = record { only = sym c.if-not-has_known_keys.ensures; keys = sym c.if-not-has_required_keys.ensures; kinds = kinds } in
    let written : c.as_bytes.result.now ≡ (client_in ms).expires = c.as_bytes.ensures.value ∙ c.in-Ok-text_or-2.ensures.1 in
    (has, λ form. c.read_moment.ensures.none c.in_default-read_moment.is form.moment.0 (subst (λ (t : List ℕ). IsDateTime form.moment.0 t) (sym written) form.moment.1))

pub returns-in-Ok-make_client : goal.returns-in-Ok-make_client
returns-in-Ok-make_client c =
    let ms = table_view c.args.row.now in
    let listed = rw c.in-Ok-Some.field-0-is at c.in-Ok-Some.ensures in
    let kinds : HasClientKinds ms = record {
      id = c.in-Ok.ensures.0;
      token = c.in-Ok-text_or.ensures.0;
      scopes = listed.0;
      expires = c.in-Ok-text_or-2.ensures.0;
      disabled = c.in-Ok-truth_or.ensures.0;
    } in
    let has : HasRow client_rows ms = record { only = sym c.if-not-has_known_keys.ensures; keys = sym c.if-not-has_required_keys.ensures; kinds = kinds } in
    let texts = ap (λ (ts : List (Bor (List ℕ))). map (λ t. t.now) ts) c.deref.ensures.value ∙ listed.1 in
    let written : c.as_bytes.result.now ≡ (client_in ms).expires = c.as_bytes.ensures.value ∙ c.in-Ok-text_or-2.ensures.1 in
    let scopes = rw c.in-Ok-Some-scopes_of.field-0-is at c.in-Ok-Some-scopes_of.ensures in (
      has,
      subst (λ (ss : List (List ℕ)). All (All IsPrintable) ss) texts scopes.0,
      subst (λ (d : ClientData). IsClientFrom (client_in ms) d) (sym c.in-Ok-make_client.ensures)
          record {
            id = c.in-Ok.ensures.1;
            token = c.in-Ok-text_or.ensures.1;
            scopes = scopes.1 ∙ texts;
            expires = subst (λ (t : List ℕ). IsDateTime c.in-Some.expires t) written c.in-Some.ensures.is;
            disabled = c.in-Ok-truth_or.ensures.1;
          },
    )

pub returns-then-not-has_required_keys : goal.returns-then-not-has_required_keys
returns-then-not-has_required_keys c = (sym c.if-not-has_known_keys.ensures, λ h. false≢true (c.if-not-has_required_keys.ensures ∙ h))
