-- What the rows of `[[client]]` say, and which rules they break (this project's own format, in TOML 1.1).
use Rattle.std.specs.Prelude.{◌≡◌, ℕ, Bool, true, false, List, [], ◌∷◌, Option, All, codes}
use Rattle.farm_text.specs.DateTime.{IsDateTime}
use Rattle.scope_sets.specs.Scopes.{IsPrintable, HasHandedInForm}
use Rattle.hawk_auth.specs.Clients.{ClientData, IsClientId, IsToken}
use Rattle.toml.specs.Data.{Data, Members, get_member}
use Rattle.farm_files.specs.Rows.{Kind, said_in}
use Rattle.farm_files.specs.Values.{has_all, is_text, are_texts, is_truth, passes, text_or, texts_in, truth_or}

-- the keys of a row, and those of them that have no default
abbrev pub client_keys : List (List ℕ)
client_keys = codes "id" ∷ codes "token" ∷ codes "scopes" ∷ codes "expires" ∷ codes "disabled" ∷ []

abbrev pub required_keys : List (List ℕ)
required_keys = codes "id" ∷ codes "token" ∷ codes "scopes" ∷ codes "expires" ∷ []

-- what a row says of a client, with its expiry as it is written
pub record ClientText : Type 0 where
  pub id : List ℕ
  pub token : List ℕ
  pub scopes : List (List ℕ)
  pub expires : List ℕ
  pub disabled : Bool

-- what a row's keys say; a client is not disabled unless it says so
abbrev pub client_in : Members → ClientText
client_in ms = record {
  id = text_or [] (get_member (codes "id") ms);
  token = text_or [] (get_member (codes "token") ms);
  scopes = texts_in (get_member (codes "scopes") ms);
  expires = text_or [] (get_member (codes "expires") ms);
  disabled = truth_or false (get_member (codes "disabled") ms);
}

-- no key is missing that has no default
abbrev pub HasClientKeys : Members → Type 0
HasClientKeys ms = has_all required_keys ms ≡ true

-- each value is of its kind
pub record HasClientKinds (ms : Members) : Type 0 where
  pub id : passes is_text (get_member (codes "id") ms) ≡ true
  pub token : passes is_text (get_member (codes "token") ms) ≡ true
  pub scopes : passes are_texts (get_member (codes "scopes") ms) ≡ true
  pub expires : passes is_text (get_member (codes "expires") ms) ≡ true
  pub disabled : passes is_truth (get_member (codes "disabled") ms) ≡ true

-- what a row says is of a client's form, in printable ASCII, and its expiry is a date and time with an offset
pub record HasRowClientForm (text : ClientText) : Type 0 where
  pub printable : All (All IsPrintable) text.scopes
  pub id_form : IsClientId text.id
  pub token_form : IsToken text.token
  pub scopes_form : All (HasHandedInForm 4096) text.scopes
  pub moment : (m : ℕ) × IsDateTime m text.expires

-- the rows of `[[client]]`, in which no JSON stands
abbrev pub client_rows : Kind ClientText
client_rows = record { keys = client_keys; HasKeys = HasClientKeys; HasKinds = HasClientKinds; says = client_in; HasForm = HasRowClientForm; id_of = λ text. text.id; HasJson = λ text. Unit {0} }

-- the client that a row says: its expiry is the moment that is written
pub record IsClientFrom (text : ClientText) (client : ClientData) : Type 0 where
  pub id : client.id ≡ text.id
  pub token : client.token ≡ text.token
  pub scopes : client.scopes ≡ text.scopes
  pub expires : IsDateTime client.expires text.expires
  pub disabled : client.disabled ≡ text.disabled

-- the clients that rows say, in their order
abbrev pub AreClients : List ClientText → List ClientData → Type 0
AreClients [] [] = Unit {0}
AreClients (text ∷ texts) (client ∷ clients) = IsClientFrom text client × AreClients texts clients
AreClients _ _ = ⊥

-- what all rows say, in their order
abbrev pub clients_in : Option Data → List ClientText
clients_in value = said_in client_rows value
