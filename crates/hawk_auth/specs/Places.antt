-- The places of clients by their ids; for private clauses.
use Rattle.std.specs.Prelude.{◌≡◌, ◌≢◌, ℕ, ◌<◌, List, String, Option, Some, slice_get}
use Rattle.std.specs.Global.{Global}
use Rattle.std.specs.BTreeMap.{BTreeMap, get_by_text}
use Rattle.std.specs.Option.{MatchOption}
use Rattle.hawk_auth.specs.Clients.{ClientData, IsFirstRepeat}
use Rattle.hawk_auth.specs.declared.book.BookFault.{BookFault}
use Rattle.hawk_auth.specs.declared.book.BookFault.TheVariants.{BadClient, DuplicateClient, NoMemory}

-- what a look-up of an id among the clients before a place answers
abbrev pub IsPlaceOf : List ClientData → ℕ → List ℕ → Option ℕ → Type 0
IsPlaceOf clients n id found = MatchOption found
    ((k : ℕ) (c : ClientData) → k < n → slice_get clients k ≡ Some c → c.id ≢ id)
    (λ k. (k < n) × ((c : ClientData) × (slice_get clients k ≡ Some c) × (c.id ≡ id)))

-- the map answers so for each id
abbrev pub HasPlaces : List ClientData → BTreeMap (String Global) ℕ → ℕ → Type 0
HasPlaces clients ids n = (id : List ℕ) → IsPlaceOf clients n id (get_by_text ids id)

-- why the places were not found: an id comes twice, or memory is wanting
abbrev pub HasRepeat : List ClientData → BookFault → Type 0
HasRepeat clients (BadClient i) = ⊥
HasRepeat clients (DuplicateClient i j) = IsFirstRepeat clients i j
HasRepeat clients NoMemory = Unit {0}
