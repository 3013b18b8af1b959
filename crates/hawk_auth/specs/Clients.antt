-- Clients, as they are written into the farm's settings (Taskcluster reference, "Clients"; the two forms are this project's own).
use Rattle.std.specs.Prelude.{◌≡◌, ◌≢◌, ℕ, ◌<◌, ◌≤◌, ◌⊎◌, Bool, List, map, take, length, All, AllPairs, Contains, Some, slice_get}
use Rattle.std.specs.Char.{IsAsciiAlphanumeric}
use Rattle.scope_sets.specs.Scopes.{HasHandedInForm}
use Rattle.hawk_auth.specs.declared.client.Client.{Client}
use Rattle.hawk_auth.specs.declared.book.BookFault.{BookFault}
use Rattle.hawk_auth.specs.declared.book.BookFault.TheVariants.{BadClient, DuplicateClient, NoMemory}

-- a client; it is no longer one from its expiry on
pub record ClientData : Type 0 where
  pub id : List ℕ
  pub token : List ℕ
  pub scopes : List (List ℕ)
  pub expires : ℕ
  pub disabled : Bool

-- the client as plain data
abbrev pub client_data : Client → ClientData
client_data c = record { id = c.id; token = c.token; scopes = c.scopes.items; expires = c.expires; disabled = c.disabled }

-- clients as plain data
abbrev pub clients_data : List Client → List ClientData
clients_data clients = map client_data clients

-- the class `[A-Za-z0-9!@/:.+|_-]`
abbrev pub IsIdByte : ℕ → Type 0
IsIdByte b =
    IsAsciiAlphanumeric b ⊎ (b ≡ 33) ⊎ (b ≡ 64) ⊎ (b ≡ 47) ⊎ (b ≡ 58) ⊎ (b ≡ 46) ⊎ (b ≡ 43) ⊎ (b ≡ 124) ⊎ (b ≡ 95) ⊎ (b ≡ 45)

-- the class `[A-Za-z0-9_-]`
abbrev pub IsTokenByte : ℕ → Type 0
IsTokenByte b = IsAsciiAlphanumeric b ⊎ (b ≡ 95) ⊎ (b ≡ 45)

-- so many bytes of a class, at least and at most
pub record HasForm (least most : ℕ) (Class : ℕ → Type 0) (text : List ℕ) : Type 0 where
  pub enough : least ≤ length text
  pub short : length text ≤ most
  pub bytes : All Class text

-- the form of a client's id
abbrev pub IsClientId : List ℕ → Type 0
IsClientId text = HasForm 1 128 IsIdByte text

-- the form of an access token
abbrev pub IsToken : List ℕ → Type 0
IsToken text = HasForm 22 66 IsTokenByte text

-- the form of a client: that of its id and its token, and its scopes are such as are handed in
pub record HasClientForm (c : ClientData) : Type 0 where
  pub id_form : IsClientId c.id
  pub token_form : IsToken c.token
  pub scopes_form : All (HasHandedInForm 4096) c.scopes

-- each of its form, and no id twice
pub record IsBook (clients : List ClientData) : Type 0 where
  pub formed : All HasClientForm clients
  pub apart : AllPairs (λ c d. c.id ≢ d.id) clients

-- the least place of a client that is off its form
pub record IsFirstBadClient (clients : List ClientData) (i : ℕ) : Type 0 where
  pub client : ClientData
  pub at : slice_get clients i ≡ Some client
  pub bad : ¬ HasClientForm client
  pub before : All HasClientForm (take i clients)

-- j is the least place of a client whose id an earlier client has, and i is that client's place
pub record IsFirstRepeat (clients : List ClientData) (i j : ℕ) : Type 0 where
  pub earlier : i < j
  pub first : ClientData
  pub second : ClientData
  pub at_i : slice_get clients i ≡ Some first
  pub at_j : slice_get clients j ≡ Some second
  pub same : first.id ≡ second.id
  pub before : AllPairs (λ c d. c.id ≢ d.id) (take j clients)

-- why a list of clients is refused: the first of these that strikes
abbrev pub Refuses : List ClientData → BookFault → Type 0
Refuses clients (BadClient i) = IsFirstBadClient clients i
Refuses clients (DuplicateClient i j) = All HasClientForm clients × IsFirstRepeat clients i j
Refuses clients NoMemory = Unit {0}

-- the client of a book that has this id
abbrev pub IsClientOf : List ClientData → List ℕ → ClientData → Type 0
IsClientOf clients id c = Contains clients c × (c.id ≡ id)
