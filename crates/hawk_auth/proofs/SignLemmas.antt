-- What is signed is read back.
use Rattle.std.proofs.Common.{◌≡◌, ◌≢◌, ℕ, ◌<◌, ◌+◌, ◌*◌, ◌/◌, ◌%◌, Bool, true, ◌&&◌, List, [], ◌∷◌, ◌++◌, length, refl, sym, ap, ◌∙◌, subst, arith, rules, inl, append_assoc}
use Rattle.std.specs.Prelude.{All, IfSome, IsTrue, Option, Some, None, codes, not, nat_eq, nat_le, replicate, slice_index}
use Rattle.std.proofs.lemmas.List.{append-nil}
use Rattle.std.proofs.lemmas.List.Elements.{All-nil, All-cons, All-tail, All-weaker, All-append, All-replicate}
use Rattle.std.specs.Char.{IsAsciiDigit}
use Rattle.base64.specs.Rfc4648.{encode_symbols, padding_len}
use Rattle.base64.specs.GeneralPurpose.{encode_of}
use Rattle.base64.specs.Engines.{standard}
use Rattle.base64.proofs.Tables.{all_below_at}
use Rattle.sha2.proofs.Facts256.{length-sha256}
use Rattle.hawk_auth.specs.Header.{AttributeData, BeginsWith, GoesOn, HeaderData, IsHeader, IsTs, IsValueByte, Says, is_name}
use Rattle.hawk_auth.specs.Mac.{PartsData, hmac, mac_of, signed_text, skip_spaces}
use Rattle.hawk_auth.specs.Signed.{IsSignable, IsValue, attribute_text, header_text, next_text, optional_text, signed_header}

abbrev may_stand : ℕ → Bool
may_stand b = nat_le 32 b && (nat_le b 126 && (not (nat_eq b 34) && not (nat_eq b 92)))

value_byte : (b : ℕ) → may_stand b ≡ true → IsValueByte b
value_byte b h = search rules

-- the symbols
abbrev table : List ℕ
table = standard.encode_table

symbol : (k : ℕ) → k < 64 → IsValueByte (slice_index table k)
symbol k lt = value_byte (slice_index table k) (all_below_at (λ i. may_stand (slice_index table i)) 64 k refl lt)

abbrev at : ℕ → ℕ
at k = slice_index table k

one_more : (k : ℕ) (rest : List ℕ) → k < 64 → All IsValueByte rest → All IsValueByte (at k ∷ rest)
one_more k rest lt h = All-cons IsValueByte (at k) rest (symbol k lt) h

plain_symbols : (m : List ℕ) → All (λ b. b < 256) m → All IsValueByte (encode_symbols table m)
unfolding encode_symbols
plain_symbols [] h = All-nil IsValueByte
plain_symbols (a ∷ []) h =
    let p : a < 256 = h 0 0 (omega arith) in
    one_more (a / 4) (at (a % 4 * 16) ∷ []) (omega arith) (one_more (a % 4 * 16) [] (omega arith) (All-nil IsValueByte))
plain_symbols (a ∷ b ∷ []) h =
    let p : a < 256 = h 0 0 (omega arith) in
    let q : b < 256 = h 1 0 (omega arith) in
    one_more (a / 4) (at (a % 4 * 16 + b / 16) ∷ at (b % 16 * 4) ∷ []) (omega arith) (one_more (a % 4 * 16 + b / 16) (at (b % 16 * 4) ∷ []) (omega arith)
    (one_more (b % 16 * 4) [] (omega arith) (All-nil IsValueByte)))
plain_symbols (a ∷ b ∷ c ∷ rest) h =
    let p : a < 256 = h 0 0 (omega arith) in
    let q : b < 256 = h 1 0 (omega arith) in
    let r : c < 256 = h 2 0 (omega arith) in
    let after : All (λ b. b < 256) rest = All-tail (λ x. x < 256) c rest (All-tail (λ x. x < 256) b (c ∷ rest) (All-tail (λ x. x < 256) a (b ∷ c ∷ rest) h)) in
    let more = plain_symbols rest after in
    one_more (a / 4) (at (a % 4 * 16 + b / 16) ∷ at (b % 16 * 4 + c / 64) ∷ at (c % 64) ∷ encode_symbols table rest) (omega arith)
    (one_more (a % 4 * 16 + b / 16) (at (b % 16 * 4 + c / 64) ∷ at (c % 64) ∷ encode_symbols table rest) (omega arith)
    (one_more (b % 16 * 4 + c / 64) (at (c % 64) ∷ encode_symbols table rest) (omega arith)
    (one_more (c % 64) (encode_symbols table rest) (omega arith) more)))

pub plain_text : (m : List ℕ) → All (λ b. b < 256) m → All IsValueByte (encode_of standard m)
plain_text m h =
    All-append IsValueByte (encode_symbols table m) (replicate (padding_len (length m)) 61) (plain_symbols m h)
    (All-replicate IsValueByte (padding_len (length m)) 61 (value_byte 61 refl))

abbrev attribute : List ℕ → List ℕ → AttributeData
attribute name value = record { name = name; value = value }

abbrev optional : List ℕ → Option (List ℕ) → List AttributeData
optional name None = []
optional name (Some value) = attribute name value ∷ []

-- a name that an attribute may have
record IsName (name : List ℕ) : Type 0 where
  named : IsTrue (is_name name)
  no_equals : All (λ b. b ≢ 61) name
  begins : (rest : List ℕ) → skip_spaces (name ++ rest) ≡ name ++ rest

module _ (name value rest : List ℕ) (n : IsName name) (v : IsValue value) where
  spelled : attribute_text name value ++ rest ≡ name ++ 61 ∷ 34 ∷ (value ++ 34 ∷ rest)
  spelled = simp append_assoc refl

  begins_with : BeginsWith (attribute_text name value ++ rest) (attribute name value) rest
  begins_with = record { spelled = spelled; no_equals = n.no_equals; no_quote = λ k d lt. (v.plain k d lt).1; named = n.named; plain = v.plain }

  kept : skip_spaces (attribute_text name value ++ rest) ≡ attribute_text name value ++ rest
  kept = ap skip_spaces spelled ∙ n.begins (61 ∷ 34 ∷ (value ++ 34 ∷ rest)) ∙ sym spelled

  goes_next : (more : List AttributeData) → GoesOn more (skip_spaces rest) → GoesOn (attribute name value ∷ more) (next_text name value ++ rest)
  goes_next more h =
      (32 ∷ (attribute_text name value ++ rest), rest, refl, subst (λ (t : List ℕ). BeginsWith t (attribute name value) rest) (sym kept) begins_with, h)

goes_optional : (name : List ℕ) (o : Option (List ℕ)) (rest : List ℕ) → IsName name → IfSome o IsValue → (more : List AttributeData) → GoesOn more (skip_spaces rest)
    → GoesOn (optional name o ++ more) (skip_spaces (optional_text name o ++ rest))
goes_optional name None rest n v more h = h
goes_optional name (Some value) rest n v more h = goes_next name value rest n v more h

-- the six names
name_id : IsName (codes "id")
name_id = record { named = refl; no_equals = search rules; begins = λ rest. refl }

name_ts : IsName (codes "ts")
name_ts = record { named = refl; no_equals = search rules; begins = λ rest. refl }

name_nonce : IsName (codes "nonce")
name_nonce = record { named = refl; no_equals = search rules; begins = λ rest. refl }

name_mac : IsName (codes "mac")
name_mac = record { named = refl; no_equals = search rules; begins = λ rest. refl }

name_hash : IsName (codes "hash")
name_hash = record { named = refl; no_equals = search rules; begins = λ rest. refl }

name_ext : IsName (codes "ext")
name_ext = record { named = refl; no_equals = search rules; begins = λ rest. refl }

module _ (id ts nonce mac : List ℕ) where
  abbrev listed : Option (List ℕ) → Option (List ℕ) → List AttributeData
  listed hash ext =
      attribute (codes "id") id ∷ attribute (codes "ts") ts ∷ attribute (codes "nonce") nonce
      ∷ (optional (codes "hash") hash ++ (optional (codes "ext") ext ++ attribute (codes "mac") mac ∷ []))

  abbrev said : Option (List ℕ) → Option (List ℕ) → HeaderData
  said hash ext = record { id = id; ts = ts; nonce = nonce; mac = mac; hash = hash; ext = ext }

  says : IsValue id → IsTs ts → IsValue nonce → IsValue mac → (hash ext : Option (List ℕ)) → IfSome hash IsValue → IfSome ext IsValue → Says (listed hash ext) (said hash ext)
  says i t n m None None h e = record {
    id = (refl, i.some);
    ts = (refl, t.some);
    nonce = (refl, n.some);
    mac = (refl, m.some);
    hash = inl refl;
    ext = inl refl;
    ts_form = t;
  }
  says i t n m (Some x) None h e = record {
    id = (refl, i.some);
    ts = (refl, t.some);
    nonce = (refl, n.some);
    mac = (refl, m.some);
    hash = (refl, h.some);
    ext = inl refl;
    ts_form = t;
  }
  says i t n m None (Some y) h e = record {
    id = (refl, i.some);
    ts = (refl, t.some);
    nonce = (refl, n.some);
    mac = (refl, m.some);
    hash = inl refl;
    ext = (refl, e.some);
    ts_form = t;
  }
  says i t n m (Some x) (Some y) h e = record {
    id = (refl, i.some);
    ts = (refl, t.some);
    nonce = (refl, n.some);
    mac = (refl, m.some);
    hash = (refl, h.some);
    ext = (refl, e.some);
    ts_form = t;
  }

nested : (h a b c d e f : List ℕ) → h ++ a ++ b ++ c ++ d ++ e ++ f ≡ h ++ (a ++ (b ++ (c ++ (d ++ (e ++ (f ++ []))))))
nested h a b c d e f = simp (append_assoc, append-nil) refl

value_of_ts : (ts : List ℕ) → IsTs ts → IsValue ts
value_of_ts ts t = record { some = t.some; plain = All-weaker IsAsciiDigit IsValueByte digit ts t.digits }
  where
    digit : (b : ℕ) → IsAsciiDigit b → IsValueByte b
    digit b d = ((omega (arith, d.0), omega (arith, d.1)), λ e. omega (arith, e, d.0), λ e. omega (arith, e, d.1))

pub read_back : (p : PartsData) → IsSignable p → IsValue (mac_of p) → IsHeader (header_text p) (signed_header p)
read_back p form mac =
    let id = codes "id" in
    let last : List ℕ = next_text (codes "mac") (mac_of p) ++ [] in
    let with_ext : List ℕ = optional_text (codes "ext") p.ext ++ last in
    let with_hash : List ℕ = optional_text (codes "hash") p.hash ++ with_ext in
    let with_nonce : List ℕ = next_text (codes "nonce") p.nonce ++ with_hash in
    let with_ts : List ℕ = next_text (codes "ts") p.ts ++ with_nonce in
    let rest : List ℕ = attribute_text (codes "id") p.id ++ with_ts in
    let macs = attribute (codes "mac") (mac_of p) ∷ [] in
    let exts = optional (codes "ext") p.ext ++ macs in
    let hashes = optional (codes "hash") p.hash ++ exts in
    let g_mac : GoesOn macs (skip_spaces last) = goes_next (codes "mac") (mac_of p) [] name_mac mac [] refl in
    let g_ext : GoesOn exts (skip_spaces with_ext) = goes_optional (codes "ext") p.ext last name_ext form.ext macs g_mac in
    let g_hash : GoesOn hashes (skip_spaces with_hash) = goes_optional (codes "hash") p.hash with_ext name_hash form.hash exts g_ext in
    let nonces = attribute (codes "nonce") p.nonce ∷ hashes in
    let g_nonce : GoesOn nonces (skip_spaces with_nonce) = goes_next (codes "nonce") p.nonce with_hash name_nonce form.nonce hashes g_hash in
    let g_ts : GoesOn (attribute (codes "ts") p.ts ∷ nonces) (skip_spaces with_ts) = goes_next (codes "ts") p.ts with_nonce name_ts (value_of_ts p.ts form.ts) nonces g_nonce in
    let whole : header_text p ≡ codes "Hawk " ++ rest =
    nested (codes "Hawk ") (attribute_text (codes "id") p.id) (next_text (codes "ts") p.ts) (next_text (codes "nonce") p.nonce) (optional_text (codes "hash") p.hash) (optional_text (codes "ext") p.ext) (next_text (codes "mac") (mac_of p)) in
    subst (λ (t : List ℕ). IsHeader t (signed_header p)) (sym whole) (record {
      rest = rest;
      scheme = record { name = refl; space = refl };
      attributes = listed p.id p.ts p.nonce (mac_of p) p.hash p.ext;
      listed = (with_ts, begins_with (codes "id") p.id with_ts name_id form.id, g_ts);
      says = says p.id p.ts p.nonce (mac_of p) form.id form.ts form.nonce mac p.hash p.ext form.hash form.ext;
    })

some_text : (m : List ℕ) → 0 < length m → 0 < length (encode_of standard m)
unfolding encode_symbols
some_text [] h = absurd (omega (arith, h))
some_text (a ∷ []) h = omega arith
some_text (a ∷ b ∷ []) h = omega arith
some_text (a ∷ b ∷ c ∷ rest) h = omega arith

pub mac_is_value : (p : PartsData) → All IsValueByte (mac_of p) → IsValue (mac_of p)
unfolding mac_of
mac_is_value p plain =
    let long : length (hmac p.token (signed_text p)) ≡ 32 = length-sha256 _ in
    record { some = some_text (hmac p.token (signed_text p)) (omega (arith, long)); plain = plain }
