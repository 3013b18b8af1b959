-- The MAC of a request and the hash of its body (Hawk, scheme 1; HMAC by RFC 2104 over the SHA-256 of FIPS 180-4; base64 by RFC 4648).
use Rattle.std.specs.Prelude.{ℕ, ◌-◌, List, [], ◌∷◌, ◌++◌, map, length, replicate, reverse, codes, decimal, bit_xor, ◌==◌, nat_lt, if◌then◌else◌, Option, Some, None}
use Rattle.std.specs.Char.{to_ascii_lowercase, to_ascii_uppercase}
use Rattle.std.specs.List.{before_first}
use Rattle.std.specs.Option.{option_copied}
use Rattle.sha2.specs.Sha256.{sha256}
use Rattle.base64.specs.GeneralPurpose.{encode_of}
use Rattle.base64.specs.Engines.{standard}
use Rattle.hawk_auth.specs.declared.macs.Parts.{Parts}

-- a key that is longer than a block is hashed first
abbrev pub short_key : List ℕ → List ℕ
short_key key = if nat_lt 64 (length key) then sha256 key else key

-- the key as a block of 64 bytes, with zeros at its end
abbrev pub key_block : List ℕ → List ℕ
key_block key = short_key key ++ replicate (64 - length (short_key key)) 0

-- the block with each byte xored with this one
abbrev pub masked : ℕ → List ℕ → List ℕ
masked mask block = map (λ b. bit_xor b mask) block

-- HMAC-SHA-256
abbrev pub hmac : List ℕ → List ℕ → List ℕ
hmac key message = sha256 (masked 0x5c (key_block key) ++ sha256 (masked 0x36 (key_block key) ++ message))

-- what a MAC is made of; a hash or an ext may be absent
pub record PartsData : Type 0 where
  pub id : List ℕ
  pub token : List ℕ
  pub ts : List ℕ
  pub nonce : List ℕ
  pub method : List ℕ
  pub target : List ℕ
  pub host : List ℕ
  pub port : ℕ
  pub hash : Option (List ℕ)
  pub ext : Option (List ℕ)

-- the parts as plain data
abbrev pub parts_data : Parts → PartsData
parts_data p = record {
  id = p.id.now;
  token = p.token.now;
  ts = p.ts.now;
  nonce = p.nonce.now;
  method = p.method.now;
  target = p.target.now;
  host = p.host.now;
  port = p.port;
  hash = option_copied p.hash;
  ext = option_copied p.ext;
}

-- the text, and a line feed
abbrev pub line : List ℕ → List ℕ
line text = text ++ 10 ∷ []

-- the text, if there is one, else the empty one
abbrev pub or_empty : Option (List ℕ) → List ℕ
or_empty None = []
or_empty (Some text) = text

-- what is authenticated: a line each, the method in capitals and the host in lower case
abbrev pub signed_text : PartsData → List ℕ
signed_text p =
    line (codes "hawk.1.header") ++ line p.ts ++ line p.nonce ++ line (map to_ascii_uppercase p.method) ++ line p.target
    ++ line (map to_ascii_lowercase p.host) ++ line (decimal p.port) ++ line (or_empty p.hash) ++ line (or_empty p.ext)

-- the MAC, in base64
unfoldable pub mac_of : PartsData → List ℕ
mac_of p = encode_of standard (hmac p.token (signed_text p))

-- the text without the spaces at its front
abbrev pub skip_spaces : List ℕ → List ℕ
skip_spaces [] = []
skip_spaces (b ∷ text) = if b == 32 then skip_spaces text else b ∷ text

-- the text without the spaces at its front and its end
abbrev pub trimmed : List ℕ → List ℕ
trimmed text = reverse (skip_spaces (reverse (skip_spaces text)))

-- what a content type says before any `;`, in lower case and without spaces around it
abbrev pub media_type : List ℕ → List ℕ
media_type content_type = map to_ascii_lowercase (trimmed (before_first (λ b. b == 59) content_type))

-- what the hash of a body is over; an absent content type is the empty one
abbrev pub payload_text : Option (List ℕ) → List ℕ → List ℕ
payload_text content_type body = line (codes "hawk.1.payload") ++ line (media_type (or_empty content_type)) ++ line body

-- the hash of a body, in base64
unfoldable pub payload_hash_of : Option (List ℕ) → List ℕ → List ℕ
payload_hash_of content_type body = encode_of standard (sha256 (payload_text content_type body))
