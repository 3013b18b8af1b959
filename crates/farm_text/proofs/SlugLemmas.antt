-- Slugids and version 4 UUIDs, one for one.
use Rattle.std.proofs.Common.{◌≡◌, ℕ, ◌+◌, ◌-◌, ◌*◌, ◌/◌, ◌%◌, ◌==◌, ◌<◌, nat_lt, Bool, true, false, not, ◌&&◌, ◌||◌, List, [], ◌∷◌, length, slice_index, refl, sym, ap, ◌∙◌, arith, append-nil, Result, IfErr, Ok, Err, inl, inr, Some, None, Option, subst, get_or}
use Rattle.std.proofs.lemmas.List.{get_or_default, get_or_past}
use Rattle.std.proofs.lemmas.List.Elements.{Contains-get_or, All-from_recursion}
use Rattle.std.proofs.lemmas.Bool.{cases_lt, ltb-true, lt-ltb, eqb-true, eq-eqb}
use Rattle.std.proofs.lemmas.List.Sums.{AllPass-from_list_all, list_all-from_AllPass}
use Rattle.std.specs.List.{All, list_all}
use Rattle.std.specs.List.{Contains}
use Rattle.std.specs.Prelude.{IsSome, IfSome, ◌↔◌, option_and_then, if◌then◌else◌}
use Rattle.std.specs.Result.{result_ok}
use Rattle.base64.specs.declared.decode.DecodeError.{DecodeError}
use Rattle.base64.specs.Rfc4648.{encode_symbols}
use Rattle.base64.specs.Tables.{all_below}
use Rattle.base64.specs.GeneralPurpose.{decode_of, IsBytes}
use Rattle.base64.specs.Engines.{url_safe_no_pad}
use Rattle.base64.proofs.Tables.{all_below_at}
use Rattle.base64.proofs.EngineFacts.{decode_of-encode_of, decode_of_strict}
use Rattle.farm_text.specs.Slug.{IsUuid4, slug_text, any_character, version_character, variant_character, last_character, slug_pattern, Matches, IsSlug, is_uuid4, slug_of}

-- ---- characters and their values

abbrev symbol_table : List ℕ
symbol_table = url_safe_no_pad.encode_table

abbrev value_table : List ℕ
value_table = url_safe_no_pad.decode_table

-- c is the symbol of v
record Shows (v c : ℕ) : Type 0 where
  below : v < 64
  shows : slice_index symbol_table v ≡ c

abbrev value_of : ℕ → ℕ
value_of c = slice_index value_table c

both : (a b : Bool) → a && b ≡ true → (a ≡ true) × (b ≡ true)
both true b h = (refl, h)
both false b h = cc h

-- what a test finds of each character of a class
tested : (class : List ℕ) (test : ℕ → Bool) (c : ℕ) → all_below (λ k. test (slice_index class k)) (length class) ≡ true → Contains class c → test c ≡ true
tested class test c all h =
    let here = all_below_at (λ k. test (slice_index class k)) (length class) h.0 all h.1 in
    let same : slice_index class h.0 ≡ c = get_or_default class h.0 0 c h.1 ∙ h.2 in
    rw same at here

abbrev shown : ℕ → Bool
shown c = nat_lt (value_of c) 64 && (slice_index symbol_table (value_of c) == c)

shown-Shows : (c : ℕ) → shown c ≡ true → Shows (value_of c) c
shown-Shows c h =
    let p = both (nat_lt (value_of c) 64) _ h in
    record { below = ltb-true (value_of c) 64 p.0; shows = eqb-true _ c p.1 }

any_value : (c : ℕ) → Contains any_character c → Shows (value_of c) c
any_value c h = shown-Shows c (tested any_character shown c refl h)

version_value : (c : ℕ) → Contains version_character c → Shows (value_of c) c × (value_of c / 4 ≡ 4)
version_value c h =
    let p = both (shown c) _ (tested version_character (λ x. shown x && (value_of x / 4 == 4)) c refl h) in
    (shown-Shows c p.0, eqb-true _ 4 p.1)

variant_value : (c : ℕ) → Contains variant_character c → Shows (value_of c) c × (value_of c % 4 ≡ 2)
variant_value c h =
    let p = both (shown c) _ (tested variant_character (λ x. shown x && (value_of x % 4 == 2)) c refl h) in
    (shown-Shows c p.0, eqb-true _ 2 p.1)

last_value : (c : ℕ) → Contains last_character c → Shows (value_of c) c × (value_of c % 16 ≡ 0)
last_value c h =
    let p = both (shown c) _ (tested last_character (λ x. shown x && (value_of x % 16 == 0)) c refl h) in
    (shown-Shows c p.0, eqb-true _ 0 p.1)

-- the place of a symbol in a class
abbrev placed : List ℕ → (ℕ → ℕ) → (ℕ → Bool) → ℕ → Bool
placed class place chosen v = not (chosen v) || (nat_lt (place v) (length class) && (slice_index class (place v) == slice_index symbol_table v))

chosen_then : (a b : Bool) → a ≡ true → not a || b ≡ true → b ≡ true
chosen_then true b h e = e
chosen_then false b h e = cc h

in_class : (class : List ℕ) (place : ℕ → ℕ) (chosen : ℕ → Bool) (v : ℕ) → all_below (placed class place chosen) 64 ≡ true → v < 64 → chosen v ≡ true → Contains class (slice_index symbol_table v)
in_class class place chosen v all lt is =
    let here = chosen_then (chosen v) _ is (all_below_at (placed class place chosen) 64 v all lt) in
    let p = both (nat_lt (place v) (length class)) _ here in
    let within = ltb-true (place v) (length class) p.0 in
    (place v, within, get_or_default class (place v) _ 0 within ∙ eqb-true _ _ p.1)

any_class : (v : ℕ) → v < 64 → Contains any_character (slice_index symbol_table v)
any_class v lt = Contains-get_or any_character v 0 lt

version_class : (v : ℕ) → v < 64 → v / 4 ≡ 4 → Contains version_character (slice_index symbol_table v)
version_class v lt is = in_class version_character (λ x. x - 16) (λ x. x / 4 == 4) v refl lt (eq-eqb _ 4 is)

variant_class : (v : ℕ) → v < 64 → v % 4 ≡ 2 → Contains variant_character (slice_index symbol_table v)
variant_class v lt is = in_class variant_character (λ x. x / 4) (λ x. x % 4 == 2) v refl lt (eq-eqb _ 2 is)

last_class : (v : ℕ) → v < 64 → v % 16 ≡ 0 → Contains last_character (slice_index symbol_table v)
last_class v lt is = in_class last_character (λ x. x / 16) (λ x. x % 16 == 0) v refl lt (eq-eqb _ 0 is)

-- ---- four characters as three bytes

abbrev symbols : List ℕ → List ℕ
symbols = encode_symbols symbol_table

encodes_group : (v0 v1 v2 v3 c0 c1 c2 c3 : ℕ) (bytes text : List ℕ) → Shows v0 c0 → Shows v1 c1 → Shows v2 c2 → Shows v3 c3 → symbols bytes ≡ text
    → symbols ((v0 * 4 + v1 / 16) ∷ (v1 % 16 * 16 + v2 / 4) ∷ (v2 % 4 * 64 + v3) ∷ bytes) ≡ c0 ∷ c1 ∷ c2 ∷ c3 ∷ text
unfolding encode_symbols
encodes_group v0 v1 v2 v3 c0 c1 c2 c3 bytes text s0 s1 s2 s3 rest =
    let l0 = s0.below in
    let l1 = s1.below in
    let l2 = s2.below in
    let l3 = s3.below in
    let e0 : (v0 * 4 + v1 / 16) / 4 ≡ v0 = omega arith in
    let e1 : (v0 * 4 + v1 / 16) % 4 * 16 + (v1 % 16 * 16 + v2 / 4) / 16 ≡ v1 = omega arith in
    let e2 : (v1 % 16 * 16 + v2 / 4) % 16 * 4 + (v2 % 4 * 64 + v3) / 64 ≡ v2 = omega arith in
    let e3 : (v2 % 4 * 64 + v3) % 64 ≡ v3 = omega arith in
    rw (e0, e1, e2, e3, s0.shows, s1.shows, s2.shows, s3.shows, rest) refl

encodes_last : (v0 v1 c0 c1 : ℕ) → Shows v0 c0 → Shows v1 c1 → v1 % 16 ≡ 0 → symbols ((v0 * 4 + v1 / 16) ∷ []) ≡ c0 ∷ c1 ∷ []
unfolding encode_symbols
encodes_last v0 v1 c0 c1 s0 s1 none =
    let l0 = s0.below in
    let l1 = s1.below in
    let e0 : (v0 * 4 + v1 / 16) / 4 ≡ v0 = omega arith in
    let e1 : (v0 * 4 + v1 / 16) % 4 * 16 ≡ v1 = omega arith in
    rw (e0, e1, s0.shows, s1.shows) refl

slug_text-symbols : (uuid : List ℕ) → slug_text uuid ≡ symbols uuid
slug_text-symbols uuid = append-nil (symbols uuid)

Matches-length : (classes : List (List ℕ)) (text : List ℕ) → Matches classes text → length text ≡ length classes
Matches-length [] [] h = refl
Matches-length [] (c ∷ text) h = absurd h
Matches-length (class ∷ classes) [] h = absurd h
Matches-length (class ∷ classes) (c ∷ text) h = let rest = Matches-length classes text h.1 in omega arith

pub IsSlug-length : (text : List ℕ) → IsSlug text → length text ≡ 22
unfolding IsSlug
IsSlug-length text h = Matches-length slug_pattern text h

-- the text of some UUID
abbrev pub IsTextOfUuid : List ℕ → Type 0
IsTextOfUuid text = (uuid : List ℕ) × IsUuid4 uuid × (text ≡ slug_text uuid)

uuid_of_parts : (b0 b1 b2 b3 b4 b5 b6 b7 b8 b9 b10 b11 b12 b13 b14 b15 : ℕ) → b0 < 256 → b1 < 256 → b2 < 256 → b3 < 256 → b4 < 256 → b5 < 256 → b6 < 256 → b7 < 256 → b8 < 256 → b9 < 256 → b10 < 256 → b11 < 256 → b12 < 256 → b13 < 256 → b14 < 256 → b15 < 256 → b6 / 16 ≡ 4 → b8 / 64 ≡ 2
    → IsUuid4 (b0 ∷ b1 ∷ b2 ∷ b3 ∷ b4 ∷ b5 ∷ b6 ∷ b7 ∷ b8 ∷ b9 ∷ b10 ∷ b11 ∷ b12 ∷ b13 ∷ b14 ∷ b15 ∷ [])
uuid_of_parts b0 b1 b2 b3 b4 b5 b6 b7 b8 b9 b10 b11 b12 b13 b14 b15 h0 h1 h2 h3 h4 h5 h6 h7 h8 h9 h10 h11 h12 h13 h14 h15 version variant =
    record { len = refl; octets = All-from_recursion (λ x. x < 256) (b0 ∷ b1 ∷ b2 ∷ b3 ∷ b4 ∷ b5 ∷ b6 ∷ b7 ∷ b8 ∷ b9 ∷ b10 ∷ b11 ∷ b12 ∷ b13 ∷ b14 ∷ b15 ∷ []) (h0, (h1, (h2, (h3, (h4, (h5, (h6, (h7, (h8, (h9, (h10, (h11, (h12, (h13, (h14, (h15, tt)))))))))))))))); version = version; variant = variant }

matched : (text : List ℕ) → Matches slug_pattern text → IsTextOfUuid text
matched (c0 ∷ c1 ∷ c2 ∷ c3 ∷ c4 ∷ c5 ∷ c6 ∷ c7 ∷ c8 ∷ c9 ∷ c10 ∷ c11 ∷ c12 ∷ c13 ∷ c14 ∷ c15 ∷ c16 ∷ c17 ∷ c18 ∷ c19 ∷ c20 ∷ c21 ∷ []) h =
    let s0 = any_value c0 h.0 in
    let s1 = any_value c1 h.1.0 in
    let s2 = any_value c2 h.1.1.0 in
    let s3 = any_value c3 h.1.1.1.0 in
    let s4 = any_value c4 h.1.1.1.1.0 in
    let s5 = any_value c5 h.1.1.1.1.1.0 in
    let s6 = any_value c6 h.1.1.1.1.1.1.0 in
    let s7 = any_value c7 h.1.1.1.1.1.1.1.0 in
    let p8 = version_value c8 h.1.1.1.1.1.1.1.1.0 in
    let s8 = p8.0 in
    let s9 = any_value c9 h.1.1.1.1.1.1.1.1.1.0 in
    let p10 = variant_value c10 h.1.1.1.1.1.1.1.1.1.1.0 in
    let s10 = p10.0 in
    let s11 = any_value c11 h.1.1.1.1.1.1.1.1.1.1.1.0 in
    let s12 = any_value c12 h.1.1.1.1.1.1.1.1.1.1.1.1.0 in
    let s13 = any_value c13 h.1.1.1.1.1.1.1.1.1.1.1.1.1.0 in
    let s14 = any_value c14 h.1.1.1.1.1.1.1.1.1.1.1.1.1.1.0 in
    let s15 = any_value c15 h.1.1.1.1.1.1.1.1.1.1.1.1.1.1.1.0 in
    let s16 = any_value c16 h.1.1.1.1.1.1.1.1.1.1.1.1.1.1.1.1.0 in
    let s17 = any_value c17 h.1.1.1.1.1.1.1.1.1.1.1.1.1.1.1.1.1.0 in
    let s18 = any_value c18 h.1.1.1.1.1.1.1.1.1.1.1.1.1.1.1.1.1.1.0 in
    let s19 = any_value c19 h.1.1.1.1.1.1.1.1.1.1.1.1.1.1.1.1.1.1.1.0 in
    let s20 = any_value c20 h.1.1.1.1.1.1.1.1.1.1.1.1.1.1.1.1.1.1.1.1.0 in
    let p21 = last_value c21 h.1.1.1.1.1.1.1.1.1.1.1.1.1.1.1.1.1.1.1.1.1.0 in
    let s21 = p21.0 in
    let l0 = s0.below in
    let l1 = s1.below in
    let l2 = s2.below in
    let l3 = s3.below in
    let l4 = s4.below in
    let l5 = s5.below in
    let l6 = s6.below in
    let l7 = s7.below in
    let l8 = s8.below in
    let l9 = s9.below in
    let l10 = s10.below in
    let l11 = s11.below in
    let l12 = s12.below in
    let l13 = s13.below in
    let l14 = s14.below in
    let l15 = s15.below in
    let l16 = s16.below in
    let l17 = s17.below in
    let l18 = s18.below in
    let l19 = s19.below in
    let l20 = s20.below in
    let l21 = s21.below in
    let uuid : List ℕ = (value_of c0 * 4 + value_of c1 / 16) ∷ (value_of c1 % 16 * 16 + value_of c2 / 4) ∷ (value_of c2 % 4 * 64 + value_of c3) ∷ (value_of c4 * 4 + value_of c5 / 16) ∷ (value_of c5 % 16 * 16 + value_of c6 / 4) ∷ (value_of c6 % 4 * 64 + value_of c7) ∷ (value_of c8 * 4 + value_of c9 / 16) ∷ (value_of c9 % 16 * 16 + value_of c10 / 4) ∷ (value_of c10 % 4 * 64 + value_of c11) ∷ (value_of c12 * 4 + value_of c13 / 16) ∷ (value_of c13 % 16 * 16 + value_of c14 / 4) ∷ (value_of c14 % 4 * 64 + value_of c15) ∷ (value_of c16 * 4 + value_of c17 / 16) ∷ (value_of c17 % 16 * 16 + value_of c18 / 4) ∷ (value_of c18 % 4 * 64 + value_of c19) ∷ (value_of c20 * 4 + value_of c21 / 16) ∷ [] in
    let text : symbols uuid ≡ c0 ∷ c1 ∷ c2 ∷ c3 ∷ c4 ∷ c5 ∷ c6 ∷ c7 ∷ c8 ∷ c9 ∷ c10 ∷ c11 ∷ c12 ∷ c13 ∷ c14 ∷ c15 ∷ c16 ∷ c17 ∷ c18 ∷ c19 ∷ c20 ∷ c21 ∷ [] =
    encodes_group _ _ _ _ c0 c1 c2 c3 _ _ s0 s1 s2 s3 (encodes_group _ _ _ _ c4 c5 c6 c7 _ _ s4 s5 s6 s7 (encodes_group _ _ _ _ c8 c9 c10 c11 _ _ s8 s9 s10 s11 (encodes_group _ _ _ _ c12 c13 c14 c15 _ _ s12 s13 s14 s15 (encodes_group _ _ _ _ c16 c17 c18 c19 _ _ s16 s17 s18 s19 (encodes_last _ _ c20 c21 s20 s21 p21.1))))) in
    (uuid, uuid_of_parts _ _ _ _ _ _ _ _ _ _ _ _ _ _ _ _ (omega arith) (omega arith) (omega arith) (omega arith) (omega arith) (omega arith) (omega arith) (omega arith) (omega arith) (omega arith) (omega arith) (omega arith) (omega arith) (omega arith) (omega arith) (omega arith) (omega arith) (omega arith), sym text ∙ sym (slug_text-symbols uuid))
matched text h = absurd (omega (arith, Matches-length slug_pattern text h))

octet_at : (b : List ℕ) (k : ℕ) → IsUuid4 b → k < 16 → slice_index b k < 256
octet_at b k u lt = let len = u.len in u.octets k 0 (omega arith)

written : (uuid : List ℕ) → IsUuid4 uuid → Matches slug_pattern (symbols uuid)
unfolding encode_symbols
written (b0 ∷ b1 ∷ b2 ∷ b3 ∷ b4 ∷ b5 ∷ b6 ∷ b7 ∷ b8 ∷ b9 ∷ b10 ∷ b11 ∷ b12 ∷ b13 ∷ b14 ∷ b15 ∷ []) u =
    let version = u.version in
    let variant = u.variant in
    let h0 : b0 < 256 = octet_at (b0 ∷ b1 ∷ b2 ∷ b3 ∷ b4 ∷ b5 ∷ b6 ∷ b7 ∷ b8 ∷ b9 ∷ b10 ∷ b11 ∷ b12 ∷ b13 ∷ b14 ∷ b15 ∷ []) 0 u (omega arith) in
    let h1 : b1 < 256 = octet_at (b0 ∷ b1 ∷ b2 ∷ b3 ∷ b4 ∷ b5 ∷ b6 ∷ b7 ∷ b8 ∷ b9 ∷ b10 ∷ b11 ∷ b12 ∷ b13 ∷ b14 ∷ b15 ∷ []) 1 u (omega arith) in
    let h2 : b2 < 256 = octet_at (b0 ∷ b1 ∷ b2 ∷ b3 ∷ b4 ∷ b5 ∷ b6 ∷ b7 ∷ b8 ∷ b9 ∷ b10 ∷ b11 ∷ b12 ∷ b13 ∷ b14 ∷ b15 ∷ []) 2 u (omega arith) in
    let h3 : b3 < 256 = octet_at (b0 ∷ b1 ∷ b2 ∷ b3 ∷ b4 ∷ b5 ∷ b6 ∷ b7 ∷ b8 ∷ b9 ∷ b10 ∷ b11 ∷ b12 ∷ b13 ∷ b14 ∷ b15 ∷ []) 3 u (omega arith) in
    let h4 : b4 < 256 = octet_at (b0 ∷ b1 ∷ b2 ∷ b3 ∷ b4 ∷ b5 ∷ b6 ∷ b7 ∷ b8 ∷ b9 ∷ b10 ∷ b11 ∷ b12 ∷ b13 ∷ b14 ∷ b15 ∷ []) 4 u (omega arith) in
    let h5 : b5 < 256 = octet_at (b0 ∷ b1 ∷ b2 ∷ b3 ∷ b4 ∷ b5 ∷ b6 ∷ b7 ∷ b8 ∷ b9 ∷ b10 ∷ b11 ∷ b12 ∷ b13 ∷ b14 ∷ b15 ∷ []) 5 u (omega arith) in
    let h6 : b6 < 256 = octet_at (b0 ∷ b1 ∷ b2 ∷ b3 ∷ b4 ∷ b5 ∷ b6 ∷ b7 ∷ b8 ∷ b9 ∷ b10 ∷ b11 ∷ b12 ∷ b13 ∷ b14 ∷ b15 ∷ []) 6 u (omega arith) in
    let h7 : b7 < 256 = octet_at (b0 ∷ b1 ∷ b2 ∷ b3 ∷ b4 ∷ b5 ∷ b6 ∷ b7 ∷ b8 ∷ b9 ∷ b10 ∷ b11 ∷ b12 ∷ b13 ∷ b14 ∷ b15 ∷ []) 7 u (omega arith) in
    let h8 : b8 < 256 = octet_at (b0 ∷ b1 ∷ b2 ∷ b3 ∷ b4 ∷ b5 ∷ b6 ∷ b7 ∷ b8 ∷ b9 ∷ b10 ∷ b11 ∷ b12 ∷ b13 ∷ b14 ∷ b15 ∷ []) 8 u (omega arith) in
    let h9 : b9 < 256 = octet_at (b0 ∷ b1 ∷ b2 ∷ b3 ∷ b4 ∷ b5 ∷ b6 ∷ b7 ∷ b8 ∷ b9 ∷ b10 ∷ b11 ∷ b12 ∷ b13 ∷ b14 ∷ b15 ∷ []) 9 u (omega arith) in
    let h10 : b10 < 256 = octet_at (b0 ∷ b1 ∷ b2 ∷ b3 ∷ b4 ∷ b5 ∷ b6 ∷ b7 ∷ b8 ∷ b9 ∷ b10 ∷ b11 ∷ b12 ∷ b13 ∷ b14 ∷ b15 ∷ []) 10 u (omega arith) in
    let h11 : b11 < 256 = octet_at (b0 ∷ b1 ∷ b2 ∷ b3 ∷ b4 ∷ b5 ∷ b6 ∷ b7 ∷ b8 ∷ b9 ∷ b10 ∷ b11 ∷ b12 ∷ b13 ∷ b14 ∷ b15 ∷ []) 11 u (omega arith) in
    let h12 : b12 < 256 = octet_at (b0 ∷ b1 ∷ b2 ∷ b3 ∷ b4 ∷ b5 ∷ b6 ∷ b7 ∷ b8 ∷ b9 ∷ b10 ∷ b11 ∷ b12 ∷ b13 ∷ b14 ∷ b15 ∷ []) 12 u (omega arith) in
    let h13 : b13 < 256 = octet_at (b0 ∷ b1 ∷ b2 ∷ b3 ∷ b4 ∷ b5 ∷ b6 ∷ b7 ∷ b8 ∷ b9 ∷ b10 ∷ b11 ∷ b12 ∷ b13 ∷ b14 ∷ b15 ∷ []) 13 u (omega arith) in
    let h14 : b14 < 256 = octet_at (b0 ∷ b1 ∷ b2 ∷ b3 ∷ b4 ∷ b5 ∷ b6 ∷ b7 ∷ b8 ∷ b9 ∷ b10 ∷ b11 ∷ b12 ∷ b13 ∷ b14 ∷ b15 ∷ []) 14 u (omega arith) in
    let h15 : b15 < 256 = octet_at (b0 ∷ b1 ∷ b2 ∷ b3 ∷ b4 ∷ b5 ∷ b6 ∷ b7 ∷ b8 ∷ b9 ∷ b10 ∷ b11 ∷ b12 ∷ b13 ∷ b14 ∷ b15 ∷ []) 15 u (omega arith) in (
      any_class (b0 / 4) (omega arith),
      (
        any_class (b0 % 4 * 16 + b1 / 16) (omega arith),
        (
          any_class (b1 % 16 * 4 + b2 / 64) (omega arith),
          (
            any_class (b2 % 64) (omega arith),
            (
              any_class (b3 / 4) (omega arith),
              (
                any_class (b3 % 4 * 16 + b4 / 16) (omega arith),
                (
                  any_class (b4 % 16 * 4 + b5 / 64) (omega arith),
                  (
                    any_class (b5 % 64) (omega arith),
                    (
                      version_class (b6 / 4) (omega arith) (omega arith),
                      (
                        any_class (b6 % 4 * 16 + b7 / 16) (omega arith),
                        (
                          variant_class (b7 % 16 * 4 + b8 / 64) (omega arith) (omega arith),
                          (
                            any_class (b8 % 64) (omega arith),
                            (
                              any_class (b9 / 4) (omega arith),
                              (
                                any_class (b9 % 4 * 16 + b10 / 16) (omega arith),
                                (
                                  any_class (b10 % 16 * 4 + b11 / 64) (omega arith),
                                  (
                                    any_class (b11 % 64) (omega arith),
                                    (
                                      any_class (b12 / 4) (omega arith),
                                      (
                                        any_class (b12 % 4 * 16 + b13 / 16) (omega arith),
                                        (
                                          any_class (b13 % 16 * 4 + b14 / 64) (omega arith),
                                          (
                                            any_class (b14 % 64) (omega arith),
                                            (
                                              any_class (b15 / 4) (omega arith),
                                              (
                                                last_class (b15 % 4 * 16) (omega arith) (omega arith),
                                                tt,
                                              ),
                                            ),
                                          ),
                                        ),
                                      ),
                                    ),
                                  ),
                                ),
                              ),
                            ),
                          ),
                        ),
                      ),
                    ),
                  ),
                ),
              ),
            ),
          ),
        ),
      ),
    )
written uuid u = let len = u.len in absurd (omega arith)

pub slug_of_uuid : (uuid : List ℕ) → IsUuid4 uuid → IsSlug (slug_text uuid)
unfolding IsSlug
slug_of_uuid uuid u = rw slug_text-symbols (written uuid u)

pub uuid_of_slug : (text : List ℕ) → IsSlug text → IsTextOfUuid text
unfolding IsSlug
uuid_of_slug text h = matched text h

-- ---- reading

IsBytes-uuid : (uuid : List ℕ) → IsUuid4 uuid → IsBytes uuid
IsBytes-uuid uuid u i = elim (cases_lt i (length uuid)) [
  | inl here ↦ u.octets i 0 here
  | inr past ↦ rw (get_or_past uuid i 0 past) (omega arith)
]

decoded : (uuid : List ℕ) → IsUuid4 uuid → decode_of url_safe_no_pad (slug_text uuid) ≡ Ok uuid
decoded uuid u = decode_of-encode_of url_safe_no_pad uuid refl (IsBytes-uuid uuid u)

pub slug_text-one : (a b : List ℕ) → IsUuid4 a → IsUuid4 b → slug_text a ≡ slug_text b → a ≡ b
slug_text-one a b u v e =
    let same = sym (decoded a u) ∙ ap (decode_of url_safe_no_pad) e ∙ decoded b v in
    cc same

-- what a slugid decodes to
pub IsSlug-decodes : (text : List ℕ) → IsSlug text → (uuid : List ℕ) × IsUuid4 uuid × (decode_of url_safe_no_pad text ≡ Ok uuid)
IsSlug-decodes text h =
    let w = uuid_of_slug text h in
    (w.0, w.1, ap (decode_of url_safe_no_pad) w.2 ∙ decoded w.0 w.1)

-- no text that does not decode is a slugid
pub IsSlug-refused : (text : List ℕ) (e : DecodeError) → decode_of url_safe_no_pad text ≡ Err e → IsSlug text → ⊥
IsSlug-refused text e is h = let w = IsSlug-decodes text h in cc (is, w.2)

-- a text that decodes is a slugid exactly where its bytes are a version 4 UUID
pub IsSlug-decoded : (text bytes : List ℕ) → decode_of url_safe_no_pad text ≡ Ok bytes → IsSlug text → IsUuid4 bytes
IsSlug-decoded text bytes is h =
    let w = IsSlug-decodes text h in
    let same : w.0 ≡ bytes = cc (is, w.2) in
    rw (← same) w.1

pub text_of_decoded : (text bytes : List ℕ) → IsBytes text → decode_of url_safe_no_pad text ≡ Ok bytes → slug_text bytes ≡ text
text_of_decoded text bytes octets is = sym (decode_of_strict url_safe_no_pad text bytes (refl, refl) octets is)

-- the same, of a result that says which error came
pub IsSlug-not_decoded : {A : Type 0} (text : List ℕ) (r : Result A DecodeError) → IfErr r (λ e. decode_of url_safe_no_pad text ≡ Err e) → ((x : A) → r ≡ Ok x → ⊥) → IsSlug text → ⊥
IsSlug-not_decoded text (Ok x) err other h = other x refl
IsSlug-not_decoded text (Err e) err other h = IsSlug-refused text e err h

-- bytes of another number than a UUID's are no slugid's
pub IsSlug-decoded_length : (text bytes : List ℕ) → decode_of url_safe_no_pad text ≡ Ok bytes → IsSlug text → length bytes ≡ 16
IsSlug-decoded_length text bytes is h = (IsSlug-decoded text bytes is h).len

-- ---- a slugid read by a function

octets_test : (uuid : List ℕ) → All (λ b. b < 256) uuid → list_all (λ b. nat_lt b 256) uuid ≡ true
octets_test uuid octets = list_all-from_AllPass (λ b. nat_lt b 256) uuid (λ k d here. lt-ltb (get_or uuid k d) 256 (octets k d here))

is_uuid4-true : (uuid : List ℕ) → IsUuid4 uuid → is_uuid4 uuid ≡ true
is_uuid4-true uuid u =
    rw (eq-eqb (length uuid) 16 u.len, octets_test uuid u.octets, eq-eqb (slice_index uuid 6 / 16) 4 u.version, eq-eqb (slice_index uuid 8 / 64) 2 u.variant) refl

IsUuid4-test : (uuid : List ℕ) → is_uuid4 uuid ≡ true → IsUuid4 uuid
IsUuid4-test uuid h =
    let p = both (length uuid == 16) _ h in
    let o = both (list_all (λ b. nat_lt b 256) uuid) _ p.1 in
    let q = both (slice_index uuid 6 / 16 == 4) _ o.1 in
    let each = AllPass-from_list_all (λ b. nat_lt b 256) uuid o.0 in
    record { len = eqb-true _ 16 p.0; octets = λ k d here. ltb-true (get_or uuid k d) 256 (each k d here); version = eqb-true _ 4 q.0; variant = eqb-true _ 2 q.1 }

chosen-slug : (text uuid : List ℕ) (b : Bool) → is_uuid4 uuid ≡ b → decode_of url_safe_no_pad text ≡ Ok uuid → IsBytes text → (IsSlug text → ⊥) → (if b then Some uuid else None) ≡ None
chosen-slug text uuid false test is octets none = refl
chosen-slug text uuid true test is octets none =
    absurd (none (subst IsSlug (text_of_decoded text uuid octets is) (slug_of_uuid uuid (IsUuid4-test uuid test))))

decoded-slug : (text : List ℕ) (r : Result (List ℕ) DecodeError) → decode_of url_safe_no_pad text ≡ r → IsBytes text → (IsSlug text → ⊥) → option_and_then (λ uuid. if is_uuid4 uuid then Some uuid else None) (result_ok r) ≡ None
decoded-slug text (Err e) is octets none = refl
decoded-slug text (Ok uuid) is octets none = chosen-slug text uuid (is_uuid4 uuid) refl is octets none

-- no slugid, no id
slug_of-none : (text : List ℕ) → IsBytes text → (IsSlug text → ⊥) → slug_of text ≡ None
unfolding slug_of
slug_of-none text octets none = decoded-slug text (decode_of url_safe_no_pad text) refl octets none

-- the id of a UUID's text is the UUID
slug_of-some : (text uuid : List ℕ) → IsUuid4 uuid → slug_text uuid ≡ text → slug_of text ≡ Some uuid
unfolding slug_of
slug_of-some text uuid u same =
    let is : decode_of url_safe_no_pad text ≡ Ok uuid = ap (decode_of url_safe_no_pad) (sym same) ∙ decoded uuid u in
    rw (is, is_uuid4-true uuid u) refl

-- what was found is the id of the text
pub slug_of_found : (text : List ℕ) (found : Option (List ℕ)) → IsBytes text → (IsSome found ↔ IsSlug text) → IfSome found (λ s. slug_text s ≡ text) → IfSome found IsUuid4 → found ≡ slug_of text
slug_of_found text None octets valid value uuid = sym (slug_of-none text octets (λ h. let some = valid.1 h in cc))
slug_of_found text (Some s) octets valid value uuid = sym (slug_of-some text s uuid value)
