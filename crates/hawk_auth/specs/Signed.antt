-- The text of the Authorization header that signs a request (Hawk, scheme 1).
use Rattle.std.specs.Prelude.{ℕ, ◌<◌, length, All, IfSome, List, [], ◌++◌, codes, Option, Some, None}
use Rattle.hawk_auth.specs.Header.{HeaderData, IsTs, IsValueByte}
use Rattle.hawk_auth.specs.Mac.{PartsData, mac_of}

-- an attribute: its name, `=`, and its value in quotes
abbrev pub attribute_text : List ℕ → List ℕ → List ℕ
attribute_text name value = name ++ codes "=\"" ++ value ++ codes "\""

-- an attribute after a comma and a space
abbrev pub next_text : List ℕ → List ℕ → List ℕ
next_text name value = codes ", " ++ attribute_text name value

-- the same, where there is a value
abbrev pub optional_text : List ℕ → Option (List ℕ) → List ℕ
optional_text name None = []
optional_text name (Some value) = next_text name value

-- the value of the header for these parts; an absent hash or ext is left out
abbrev pub header_text : PartsData → List ℕ
header_text p =
    codes "Hawk " ++ attribute_text (codes "id") p.id ++ next_text (codes "ts") p.ts ++ next_text (codes "nonce") p.nonce
    ++ optional_text (codes "hash") p.hash ++ optional_text (codes "ext") p.ext ++ next_text (codes "mac") (mac_of p)

-- the form of a value in the header
pub record IsValue (value : List ℕ) : Type 0 where
  pub some : 0 < length value
  pub plain : All IsValueByte value

-- the form of parts that a header can say
pub record IsSignable (p : PartsData) : Type 0 where
  pub id : IsValue p.id
  pub ts : IsTs p.ts
  pub nonce : IsValue p.nonce
  pub hash : IfSome p.hash IsValue
  pub ext : IfSome p.ext IsValue

-- what the header for these parts says
abbrev pub signed_header : PartsData → HeaderData
signed_header p = record { id = p.id; ts = p.ts; nonce = p.nonce; mac = mac_of p; hash = p.hash; ext = p.ext }
