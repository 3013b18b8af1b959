-- A slugid: a version 4 UUID as 22 characters of URL-safe base64 (RFC 4648, RFC 9562).
use Rattle.std.specs.Prelude.{◌≡◌, ℕ, ◌/◌, ◌<◌, ◌++◌, List, [], ◌∷◌, length, slice_index, replicate, codes, All, Contains, Bool, ◌&&◌, ◌==◌, nat_lt, Option, Some, None, option_and_then, if◌then◌else◌}
use Rattle.std.specs.List.{list_all}
use Rattle.std.specs.Result.{result_ok}
use Rattle.base64.specs.GeneralPurpose.{encode_of, decode_of}
use Rattle.base64.specs.Engines.{url_safe_no_pad}

-- sixteen bytes, with version 4 in the high half of byte 6 and the variant 10 in the high bits of byte 8 (RFC 9562)
pub record IsUuid4 (uuid : List ℕ) : Type 0 where
  pub len : length uuid ≡ 16
  pub octets : All (λ b. b < 256) uuid
  pub version : slice_index uuid 6 / 16 ≡ 4
  pub variant : slice_index uuid 8 / 64 ≡ 2

-- a UUID's text: its base64 in the URL-safe alphabet, without padding
abbrev pub slug_text : List ℕ → List ℕ
slug_text uuid = encode_of url_safe_no_pad uuid

-- the class `[A-Za-z0-9_-]`
abbrev pub any_character : List ℕ
any_character = codes "ABCDEFGHIJKLMNOPQRSTUVWXYZabcdefghijklmnopqrstuvwxyz0123456789-_"

-- the class `[Q-T]`
abbrev pub version_character : List ℕ
version_character = codes "QRST"

-- the class `[CGKOSWaeimquy26-]`
abbrev pub variant_character : List ℕ
variant_character = codes "CGKOSWaeimquy26-"

-- the class `[AQgw]`
abbrev pub last_character : List ℕ
last_character = codes "AQgw"

-- `[A-Za-z0-9_-]{8}[Q-T][A-Za-z0-9_-][CGKOSWaeimquy26-][A-Za-z0-9_-]{10}[AQgw]`
abbrev pub slug_pattern : List (List ℕ)
slug_pattern = replicate 8 any_character ++ (version_character ∷ any_character ∷ variant_character ∷ (replicate 10 any_character ++ last_character ∷ []))

-- the text has one character of each class, in order, and no more
abbrev pub Matches : List (List ℕ) → List ℕ → Type 0
Matches [] [] = Unit {0}
Matches [] (c ∷ text) = ⊥
Matches (class ∷ classes) [] = ⊥
Matches (class ∷ classes) (c ∷ text) = Contains class c × Matches classes text

-- the text is a slugid
unfoldable pub IsSlug : List ℕ → Type 0
IsSlug text = Matches slug_pattern text

-- a UUID of version 4 and variant 10, as a test
abbrev pub is_uuid4 : List ℕ → Bool
is_uuid4 uuid = (length uuid == 16) && (list_all (λ b. nat_lt b 256) uuid && ((slice_index uuid 6 / 16 == 4) && (slice_index uuid 8 / 64 == 2)))

-- the UUID whose slugid a text is, where it is one: what it decodes to, if that is a version 4 UUID
unfoldable pub slug_of : List ℕ → Option (List ℕ)
slug_of text = option_and_then (λ uuid. if is_uuid4 uuid then Some uuid else None) (result_ok (decode_of url_safe_no_pad text))
