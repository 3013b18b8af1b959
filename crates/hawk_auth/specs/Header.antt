-- The Authorization header of Hawk (scheme 1, "Authorization: Hawk .."), as this project reads it: spaces alone, and no others of its attributes.
use Rattle.std.specs.Prelude.{◌≡◌, ◌≢◌, ℕ, ◌<◌, ◌≤◌, ◌⊎◌, Bool, ◌||◌, IsTrue, List, [], ◌∷◌, ◌++◌, map, filter, take, drop, length, codes, All, Option, Some, None}
use Rattle.std.specs.Char.{to_ascii_lowercase, IsAsciiDigit}
use Rattle.std.specs.Option.{option_copied}
use Rattle.std.specs.Str.{bytes_eq}
use Rattle.scope_sets.specs.Scopes.{IsPrintable}
use Rattle.hawk_auth.specs.Mac.{skip_spaces}
use Rattle.hawk_auth.specs.declared.attributes.Attribute.{Attribute}
use Rattle.hawk_auth.specs.declared.header.HawkHeader.{HawkHeader}
use Rattle.hawk_auth.specs.declared.header.HeaderFault.{HeaderFault}
use Rattle.hawk_auth.specs.declared.header.HeaderFault.TheVariants.{BadHeader, NoMemory}

-- an attribute: its name and its value
pub record AttributeData : Type 0 where
  pub name : List ℕ
  pub value : List ℕ

-- the attribute as plain data
abbrev pub attribute_data : Attribute → AttributeData
attribute_data a = record { name = a.name.now; value = a.value.now }

-- attributes as plain data
abbrev pub attributes_data : List Attribute → List AttributeData
attributes_data attributes = map attribute_data attributes

-- one of the six names
abbrev pub is_name : List ℕ → Bool
is_name name =
    bytes_eq name (codes "id") || bytes_eq name (codes "ts") || bytes_eq name (codes "nonce")
    || bytes_eq name (codes "mac") || bytes_eq name (codes "hash") || bytes_eq name (codes "ext")

-- what may stand in a value: printable ASCII without a quote and a backslash
abbrev pub IsValueByte : ℕ → Type 0
IsValueByte b = IsPrintable b × (b ≢ 34) × (b ≢ 92)

-- the text begins with an attribute: its name, `=` and its value in quotes; and goes on with this
pub record BeginsWith (text : List ℕ) (a : AttributeData) (after : List ℕ) : Type 0 where
  pub spelled : text ≡ a.name ++ 61 ∷ 34 ∷ (a.value ++ 34 ∷ after)
  pub no_equals : All (λ b. b ≢ 61) a.name
  pub no_quote : All (λ b. b ≢ 34) a.value
  pub named : IsTrue (is_name a.name)
  pub plain : All IsValueByte a.value

-- what follows an attribute: these attributes, each after a comma, with spaces before and after the comma and at the end
abbrev pub GoesOn : List AttributeData → List ℕ → Type 0
GoesOn [] rest = rest ≡ []
GoesOn (a ∷ more) rest =
    (text : List ℕ) × (after : List ℕ) × (rest ≡ 44 ∷ text) × BeginsWith (skip_spaces text) a after × GoesOn more (skip_spaces after)

-- the text is these attributes, with commas between them
abbrev pub IsAttributes : List AttributeData → List ℕ → Type 0
IsAttributes [] text = ⊥
IsAttributes (a ∷ more) text = (after : List ℕ) × BeginsWith text a after × GoesOn more (skip_spaces after)

-- `Hawk` in any case and a space, before the rest
pub record HasScheme (text rest : List ℕ) : Type 0 where
  pub name : map to_ascii_lowercase (take 4 text) ≡ codes "hawk"
  pub space : drop 4 text ≡ 32 ∷ rest

-- what the header says
pub record HeaderData : Type 0 where
  pub id : List ℕ
  pub ts : List ℕ
  pub nonce : List ℕ
  pub mac : List ℕ
  pub hash : Option (List ℕ)
  pub ext : Option (List ℕ)

-- the header as plain data
abbrev pub header_data : HawkHeader → HeaderData
header_data h = record {
  id = h.id.now;
  ts = h.ts.now;
  nonce = h.nonce.now;
  mac = h.mac.now;
  hash = option_copied h.hash;
  ext = option_copied h.ext;
}

-- the values that stand under a name
abbrev pub values_of : List ℕ → List AttributeData → List (List ℕ)
values_of name attributes = map (λ a. a.value) (filter (λ a. bytes_eq a.name name) attributes)

-- it is there once, and not empty
abbrev pub IsRequired : List (List ℕ) → List ℕ → Type 0
IsRequired values v = (values ≡ v ∷ []) × (0 < length v)

-- it is there at most once; an empty one is as absent
abbrev pub IsOptional : List (List ℕ) → Option (List ℕ) → Type 0
IsOptional values None = (values ≡ []) ⊎ (values ≡ [] ∷ [])
IsOptional values (Some v) = IsRequired values v

-- the text of a ts: 1 to 12 digits
pub record IsTs (ts : List ℕ) : Type 0 where
  pub some : 0 < length ts
  pub short : length ts ≤ 12
  pub digits : All IsAsciiDigit ts

-- what these attributes say
pub record Says (attributes : List AttributeData) (h : HeaderData) : Type 0 where
  pub id : IsRequired (values_of (codes "id") attributes) h.id
  pub ts : IsRequired (values_of (codes "ts") attributes) h.ts
  pub nonce : IsRequired (values_of (codes "nonce") attributes) h.nonce
  pub mac : IsRequired (values_of (codes "mac") attributes) h.mac
  pub hash : IsOptional (values_of (codes "hash") attributes) h.hash
  pub ext : IsOptional (values_of (codes "ext") attributes) h.ext
  pub ts_form : IsTs h.ts

-- the value of the header says this
pub record IsHeader (text : List ℕ) (h : HeaderData) : Type 0 where
  pub rest : List ℕ
  pub scheme : HasScheme text rest
  pub attributes : List AttributeData
  pub listed : IsAttributes attributes (skip_spaces rest)
  pub says : Says attributes h

-- why no header was read: the value says nothing, or memory is wanting
abbrev pub HasNoReading : List ℕ → HeaderFault → Type 0
HasNoReading text BadHeader = (h : HeaderData) → ¬ IsHeader text h
HasNoReading text NoMemory = Unit {0}
