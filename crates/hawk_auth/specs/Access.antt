-- Who calls (Hawk, scheme 1; the Taskcluster reference, "Clients"): the caller's closure, or the first condition that fails.
use Rattle.std.specs.Prelude.{◌≡◌, ◌≢◌, ◌⊎◌, ℕ, ◌+◌, ◌-◌, ◌/◌, ◌<◌, ◌≤◌, true, List, [], ◌∷◌, ◌++◌, map, codes, All, Option, Some, None, Result, Ok, Err}
use Rattle.std.specs.Int.Digits.{number_from_digits}
use Rattle.std.specs.Option.{option_copied}
use Rattle.scope_sets.specs.Expressions.{Expression, one, all_of, members_of, missing, view}
use Rattle.role_expand.specs.Roles.{RoleData}
use Rattle.role_expand.specs.Closures.{IsClosure, HasMoreDerivable}
use Rattle.hawk_auth.specs.Mac.{PartsData, mac_of, payload_hash_of}
use Rattle.hawk_auth.specs.Header.{HeaderData, IsHeader}
use Rattle.hawk_auth.specs.Clients.{ClientData, IsClientOf}
use Rattle.hawk_auth.specs.Ext.{IsExt}
use Rattle.hawk_auth.specs.declared.check.AuthHead.{AuthHead}
use Rattle.hawk_auth.specs.declared.check.AuthFault.{AuthFault}
use Rattle.hawk_auth.specs.declared.check.AuthFault.TheVariants as told

-- what of a request tells who calls: the value of the first Authorization field, the number of such fields, and what is signed
pub record HeadData : Type 0 where
  pub header : Option (List ℕ)
  pub count : ℕ
  pub method : List ℕ
  pub target : List ℕ
  pub content_type : Option (List ℕ)
  pub body : List ℕ
  pub host : List ℕ
  pub port : ℕ

-- the head as plain data
abbrev pub head_data : AuthHead → HeadData
head_data head = record {
  header = option_copied head.header;
  count = head.count;
  method = head.method.now;
  target = head.target.now;
  content_type = option_copied head.content_type;
  body = head.body.now;
  host = head.host.now;
  port = head.port;
}

-- why a caller is refused, with what that tells: the seconds of the header and of the farm, or what is missing of the scopes that are asked for
pub data Refusal : Type 0 where
  BadHeader : Refusal
  UnknownClient : Refusal
  Disabled : Refusal
  Expired : Refusal
  Skew : (ts : ℕ) → (now : ℕ) → Refusal
  BadMac : Refusal
  BadHash : Refusal
  BadExt : Refusal
  Oversteps : (lack : Expression) → Refusal
  TooMany : Refusal

-- the scopes of whoever is let in, or why not
abbrev pub Access : Type 0
Access = Result (List (List ℕ)) Refusal

-- where this holds, the caller is refused so
abbrev pub Refused : Type 0 → Refusal → Access → Type 0
Refused condition refusal access = condition × (access ≡ Err refusal)

-- what a start list gives: its closure, or that more scopes are derivable than a closure may have
abbrev pub Expands : List RoleData → List (List ℕ) → Access → Type 0
Expands roles start (Ok set) = IsClosure 10_000 roles start set
Expands roles start (Err refusal) = HasMoreDerivable 10_000 roles start × (refusal ≡ TooMany)

-- the start list of whoever gives no credentials
abbrev pub anonymous_scopes : List (List ℕ)
anonymous_scopes = codes "assume:anonymous" ∷ []

-- the start list of a client
abbrev pub own_scopes : ClientData → List (List ℕ)
own_scopes c = c.scopes ++ (codes "assume:client-id:" ++ c.id) ∷ []

-- what the MAC of a request is made of, where this header came with it from this client
abbrev pub signed_parts : HeadData → HeaderData → ClientData → PartsData
signed_parts head h c = record {
  id = h.id;
  token = c.token;
  ts = h.ts;
  nonce = h.nonce;
  method = head.method;
  target = head.target;
  host = head.host;
  port = head.port;
  hash = h.hash;
  ext = h.ext;
}

-- the seconds that a ts tells
abbrev pub seconds_of : List ℕ → ℕ
seconds_of ts = number_from_digits 10 (map (λ b. b - 48) ts)

-- two numbers of seconds differ by more than 900 (this project's own number)
abbrev pub AreFar : ℕ → ℕ → Type 0
AreFar a b = (a + 900 < b) ⊎ (b + 900 < a)

-- what the header allows of the client's scopes: all, or these
abbrev pub Limits : Option (List ℕ) → Option (List (List ℕ)) → Type 0
Limits None allowed = allowed ≡ None
Limits (Some ext) allowed = IsExt ext allowed

-- all of these scopes
abbrev pub all_scopes : List (List ℕ) → Expression
all_scopes scopes = all_of (members_of (map one scopes))

-- the scopes that are asked for, where more are derivable from the client's own than a closure may have
abbrev pub HasTooMany : List RoleData → HeaderData → ClientData → Access → Type 0
HasTooMany roles h c access =
    (scopes : List (List ℕ)) × Limits h.ext (Some scopes) × Refused (HasMoreDerivable 10_000 roles (own_scopes c)) TooMany access

-- the client's own closure does not hold all the scopes that are asked for; what is missing is told
abbrev pub DoesOverstep : List RoleData → HeaderData → ClientData → Access → Type 0
DoesOverstep roles h c access =
    (scopes : List (List ℕ)) × (set : List (List ℕ)) × (lack : Expression) × Limits h.ext (Some scopes) × IsClosure 10_000 roles (own_scopes c) set
    × Refused (missing set (all_scopes scopes) ≡ Some lack) (Oversteps lack) access

-- the start list: the scopes that are asked for alone, or the client's own
abbrev pub start_list : ClientData → Option (List (List ℕ)) → List (List ℕ)
start_list c None = own_scopes c
start_list c (Some scopes) = scopes

-- what is left: the start list is expanded
abbrev pub HasStart : List RoleData → HeaderData → ClientData → Access → Type 0
HasStart roles h c access = (allowed : Option (List (List ℕ))) × Limits h.ext allowed × Expands roles (start_list c allowed) access

-- the hash of the header, if it has one, is not that of the body
abbrev pub HasOtherHash : HeadData → Option (List ℕ) → Type 0
HasOtherHash head None = ⊥
HasOtherHash head (Some hash) = hash ≢ payload_hash_of head.content_type head.body

-- what the header's ext says of the access: it is off its form, more is asked than the client has, or the start list is expanded
abbrev pub ext_conditions : List RoleData → HeaderData → ClientData → List (Access → Type 0)
ext_conditions roles h c =
    Refused ((allowed : Option (List (List ℕ))) → ¬ Limits h.ext allowed) BadExt
    ∷ HasTooMany roles h c
    ∷ DoesOverstep roles h c
    ∷ HasStart roles h c ∷ []

-- what may refuse a known client, in the order
abbrev pub conditions : List RoleData → HeadData → ℕ → HeaderData → ClientData → List (Access → Type 0)
conditions roles head now h c =
    Refused (c.disabled ≡ true) Disabled
    ∷ Refused (c.expires ≤ now) Expired
    ∷ Refused (AreFar (seconds_of h.ts) (now / 1000)) (Skew (seconds_of h.ts) (now / 1000))
    ∷ Refused (h.mac ≢ mac_of (signed_parts head h c)) BadMac
    ∷ Refused (HasOtherHash head h.hash) BadHash
    ∷ ext_conditions roles h c

-- the access by the first of these that gives any
abbrev pub IsFirst : List (Access → Type 0) → Access → Type 0
IsFirst [] access = ⊥
IsFirst (P ∷ Ps) access = P access ⊎ (((other : Access) → ¬ P other) × IsFirst Ps access)

-- the access of whoever sends this header so many times: it says nothing, or no client has its id, or it is that client's by the conditions in their order
abbrev pub HasSignedAccess : List ClientData → List RoleData → HeadData → ℕ → List ℕ → Access → Type 0
HasSignedAccess clients roles head now value access =
    Refused ((head.count ≢ 1) ⊎ ((h : HeaderData) → ¬ IsHeader value h)) BadHeader access
    ⊎ ((head.count ≡ 1) × ((h : HeaderData) × IsHeader value h
    × (Refused (All (λ c. c.id ≢ h.id) clients) UnknownClient access
    ⊎ ((c : ClientData) × IsClientOf clients h.id c × IsFirst (conditions roles head now h c) access))))

-- the access of a caller by its header, if there is one
abbrev pub HasAccessBy : List ClientData → List RoleData → HeadData → ℕ → Option (List ℕ) → Access → Type 0
HasAccessBy clients roles head now None access = Expands roles anonymous_scopes access
HasAccessBy clients roles head now (Some value) access = HasSignedAccess clients roles head now value access

-- the access of a caller
abbrev pub HasAccess : List ClientData → List RoleData → HeadData → ℕ → Access → Type 0
HasAccess clients roles head now access = HasAccessBy clients roles head now head.header access

-- the access that a check tells is this, or memory is wanting
abbrev pub UnlessNoMemory : (Access → Type 0) → Result (List (List ℕ)) AuthFault → Type 0
UnlessNoMemory Is (Ok set) = Is (Ok set)
UnlessNoMemory Is (Err told.BadHeader) = Is (Err BadHeader)
UnlessNoMemory Is (Err told.UnknownClient) = Is (Err UnknownClient)
UnlessNoMemory Is (Err told.Disabled) = Is (Err Disabled)
UnlessNoMemory Is (Err told.Expired) = Is (Err Expired)
UnlessNoMemory Is (Err (told.Skew ts now)) = Is (Err (Skew ts now))
UnlessNoMemory Is (Err told.BadMac) = Is (Err BadMac)
UnlessNoMemory Is (Err told.BadHash) = Is (Err BadHash)
UnlessNoMemory Is (Err told.BadExt) = Is (Err BadExt)
UnlessNoMemory Is (Err (told.Oversteps lack)) = Is (Err (Oversteps (view lack)))
UnlessNoMemory Is (Err told.TooMany) = Is (Err TooMany)
UnlessNoMemory Is (Err told.NoMemory) = Unit {0}
