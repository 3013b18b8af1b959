-- The clients of sound rows are a book.
use Rattle.std.proofs.Common.{ℕ, List, Option, map, take, sym, ap, ◌∙◌, subst}
use Rattle.std.specs.Prelude.{All}
use Rattle.scope_sets.specs.Scopes.{HasHandedInForm}
use Rattle.hawk_auth.specs.Clients.{ClientData, IsClientId, IsToken, IsFirstBadClient, IsFirstRepeat}
use Rattle.toml.specs.Data.{Data}
use Rattle.farm_files.specs.declared.fault.Rule.{Rule}
use Rattle.farm_files.specs.Clients.{AreClients, client_rows, clients_in}
use Rattle.farm_files.specs.Rows.{RowsBreak, rows_in, says_of}
use Rattle.farm_files.proofs.ClientLemmas.{text_at}
use Rattle.farm_files.proofs.FarmLemmas.{no_repeat, row_form, rows_sound, said_at}

module _ (o : Option Data) (cs : List ClientData) (are : AreClients (clients_in o) cs) (sound : (row : ℕ) (rule : Rule) → ¬ RowsBreak client_rows o row rule) where
  pub book_forms : (place : ℕ) → ¬ IsFirstBadClient cs place
  book_forms place bad =
      let text = text_at (clients_in o) cs place bad.client are bad.at in
      let at = said_at client_rows (rows_in o) place text.0 text.1 in
      row_form client_rows (map (says_of client_rows) (take place (rows_in o))) place at.0 (λ rule b. rows_sound client_rows o sound place rule (at.0, at.1, b))
      (λ form. bad.bad (record {
        id_form = subst IsClientId (sym (text.2.id ∙ sym (ap (λ t. t.id) at.2))) form.form.id_form;
        token_form = subst IsToken (sym (text.2.token ∙ sym (ap (λ t. t.token) at.2))) form.form.token_form;
        scopes_form = subst (λ ss. All (HasHandedInForm 4096) ss) (sym (text.2.scopes ∙ sym (ap (λ t. t.scopes) at.2))) form.form.scopes_form;
      }))

  pub book_apart : (i j : ℕ) → ¬ IsFirstRepeat cs i j
  book_apart i j again =
      let first = text_at (clients_in o) cs i again.first are again.at_i in
      let second = text_at (clients_in o) cs j again.second are again.at_j in
      no_repeat client_rows (rows_in o) (rows_sound client_rows o sound) i j first.0 second.0 again.earlier first.1 second.1 (sym first.2.id ∙ again.same ∙ second.2.id)
