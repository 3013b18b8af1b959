-- Each caller has some access: which header a value is, which client an id is of, and what an ext allows are decided.
use Rattle.std.proofs.Common.{◌≡◌, ◌≢◌, ◌⊎◌, inl, inr, ℕ, zero, suc, ◌+◌, ◌-◌, ◌/◌, ◌<◌, ◌≤◌, ℤ, pos, negsuc, Bool, true, false, List, [], ◌∷◌, ◌++◌, map, take, drop, length, refl, sym, ap, ap₂, ◌∙◌, subst, arith, rules}
use Rattle.std.specs.Prelude.{IsTrue, All, IsUtf8, Option, Some, None, Result, Ok, Err, codes, slice_index}
use Rattle.std.specs.Char.{to_ascii_lowercase, IsAsciiDigit}
use Rattle.std.specs.Str.{is_utf8}
use Rattle.std.proofs.lemmas.Bool.{cases_lt}
use Rattle.std.proofs.lemmas.List.Elements.{All-nil, All-cons}
use Rattle.std.proofs.lemmas.Str.{IsUtf8-from_is_utf8, is_utf8-from_IsUtf8}
use Rattle.base64.specs.declared.decode.DecodeError.{DecodeError}
use Rattle.base64.specs.GeneralPurpose.{encode_of, decode_of, IsBytes, IsConsistent, IsStrict}
use Rattle.base64.specs.Engines.{standard}
use Rattle.base64.proofs.EngineFacts.{decode_of-encode_of, decode_of_strict, IsAscii-encode_of}
use Rattle.serde_json.specs.Data as json
use Rattle.serde_json.specs.Read.{read}
use Rattle.scope_sets.specs.Scopes.{IsPrintable, HasHandedInForm, EndsWithTwoStars, star}
use Rattle.scope_sets.specs.Expressions.{Expression, missing}
use Rattle.role_expand.specs.Cycles.{IsAccepted}
use Rattle.role_expand.specs.Roles.{RoleData}
use Rattle.role_expand.specs.Closures.{IsClosure, HasMoreDerivable}
use Rattle.role_expand.proofs.ExistenceLemmas.{closure_or_too_many}
use Rattle.role_expand.proofs.SetLemmas.{closure_is_one, closure_or_more}
use Rattle.farm_text.specs.Document.{Document, null, boolean, whole, text, array, object, Items, no_items, item, Members, no_members, member, items_of, get, number_of, data_of, items_data, members_data}
use Rattle.farm_text.specs.Reading.{IsJson, unwhole}
use Rattle.hawk_auth.proofs.DataLemmas.{IsJson-one}
use Rattle.hawk_auth.specs.Access.{Access, Refusal, BadHeader, UnknownClient, Disabled, Expired, Skew, BadMac, BadHash, BadExt, Oversteps, TooMany, AreFar, Expands, HasAccess, HasAccessBy, HasOtherHash, HasSignedAccess, HeadData, IsFirst, Limits, Refused, all_scopes, anonymous_scopes, conditions, ext_conditions, own_scopes, seconds_of, signed_parts, start_list}
use Rattle.hawk_auth.specs.Clients.{ClientData, IsClientOf}
use Rattle.hawk_auth.specs.Ext.{IsScope, AreScopes, AllowsOnly, IsDocument, IsObject, Allows, IsExt}
use Rattle.hawk_auth.specs.Header.{AttributeData, HeaderData, HasScheme, IsAttributes, IsHeader, IsOptional, IsRequired, IsTs, Says, values_of}
use Rattle.hawk_auth.specs.Mac.{mac_of, payload_hash_of, skip_spaces}
use Rattle.hawk_auth.specs.Admitted.{within_conditions}
use Rattle.hawk_auth.proofs.AccessLemmas.{encode_once, texts_once, limits_once, expands_own, within, holds_all}
use Rattle.hawk_auth.proofs.DecideLemmas.{Decided, same_number, at_most, is_true, both, neither, same_text, each, starts, attributes}
use Rattle.hawk_auth.proofs.HeaderLemmas.{not_said}
use Rattle.hawk_auth.proofs.LawLemmas.{required_once}

-- ---- what attributes say

two_values : (v w u : List ℕ) (values : List (List ℕ)) → v ∷ w ∷ values ≢ u ∷ []
two_values v w u values e = cc

required : (values : List (List ℕ)) → Decided ((v : List ℕ) × IsRequired values v)
required [] = inr (λ r. let e = r.1.0 in cc)
required (v ∷ w ∷ values) = inr (λ r. two_values v w r.0 values r.1.0)
required (v ∷ []) = elim (cases_lt 0 (length v)) [
  | inl some ↦ inl (v, (refl, some))
  | inr none ↦ inr (λ r. let same : v ≡ r.0 = (let e = r.1.0 in cc) in let some = r.1.1 in omega (arith, none, some, ap length same))
]

optional : (values : List (List ℕ)) → Decided ((o : Option (List ℕ)) × IsOptional values o)
optional [] = inl (None, inl refl)
optional ([] ∷ []) = inl (None, inr refl)
optional ((b ∷ v) ∷ []) = inl (Some (b ∷ v), (refl, omega arith))
optional (v ∷ w ∷ values) = inr none where
  none : ¬ ((o : Option (List ℕ)) × IsOptional (v ∷ w ∷ values) o)
  none (None, inl e) = cc
  none (None, inr e) = two_values v w [] values e
  none (Some u, r) = two_values v w u values r.0

digit : (b : ℕ) → Decided (IsAsciiDigit b)
digit b = both (at_most 48 b) (at_most b 57)

ts_form : (ts : List ℕ) → Decided (IsTs ts)
ts_form ts = by (both (both (at_most 1 (length ts)) (at_most (length ts) 12)) (each IsAsciiDigit digit ts)) where
  by : Decided (((1 ≤ length ts) × (length ts ≤ 12)) × All IsAsciiDigit ts) → Decided (IsTs ts)
  by (inl h) = inl (record { some = h.0.0; short = h.0.1; digits = h.1 })
  by (inr none) = inr (λ h. none ((h.some, h.short), h.digits))

said : (all : List AttributeData) → Decided ((h : HeaderData) × Says all h)
said all =
    by (required (values_of (codes "id") all)) (required (values_of (codes "ts") all)) (required (values_of (codes "nonce") all)) (required (values_of (codes "mac") all))
    (optional (values_of (codes "hash") all)) (optional (values_of (codes "ext") all))
  where
    of_ts : (id : (v : List ℕ) × IsRequired (values_of (codes "id") all) v) (ts : (v : List ℕ) × IsRequired (values_of (codes "ts") all) v) (nonce : (v : List ℕ) × IsRequired (values_of (codes "nonce") all) v)
        (mac : (v : List ℕ) × IsRequired (values_of (codes "mac") all) v) (hash : (o : Option (List ℕ)) × IsOptional (values_of (codes "hash") all) o) (ext : (o : Option (List ℕ)) × IsOptional (values_of (codes "ext") all) o)
        → Decided (IsTs ts.0) → Decided ((h : HeaderData) × Says all h)
    of_ts id ts nonce mac hash ext (inl form) =
        inl (
          record { id = id.0; ts = ts.0; nonce = nonce.0; mac = mac.0; hash = hash.0; ext = ext.0 },
          record { id = id.1; ts = ts.1; nonce = nonce.1; mac = mac.1; hash = hash.1; ext = ext.1; ts_form = form },
        )
    of_ts id ts nonce mac hash ext (inr off) =
        inr (λ s. off (subst IsTs (required_once (values_of (codes "ts") all) s.0.ts ts.0 s.1.ts ts.1) s.1.ts_form))

    by : Decided ((v : List ℕ) × IsRequired (values_of (codes "id") all) v) → Decided ((v : List ℕ) × IsRequired (values_of (codes "ts") all) v) → Decided ((v : List ℕ) × IsRequired (values_of (codes "nonce") all) v)
        → Decided ((v : List ℕ) × IsRequired (values_of (codes "mac") all) v) → Decided ((o : Option (List ℕ)) × IsOptional (values_of (codes "hash") all) o) → Decided ((o : Option (List ℕ)) × IsOptional (values_of (codes "ext") all) o)
        → Decided ((h : HeaderData) × Says all h)
    by (inr none) b c d e f = inr (λ s. none (s.0.id, s.1.id))
    by (inl a) (inr none) c d e f = inr (λ s. none (s.0.ts, s.1.ts))
    by (inl a) (inl b) (inr none) d e f = inr (λ s. none (s.0.nonce, s.1.nonce))
    by (inl a) (inl b) (inl c) (inr none) e f = inr (λ s. none (s.0.mac, s.1.mac))
    by (inl a) (inl b) (inl c) (inl d) (inr none) f = inr (λ s. none (s.0.hash, s.1.hash))
    by (inl a) (inl b) (inl c) (inl d) (inl e) (inr none) = inr (λ s. none (s.0.ext, s.1.ext))
    by (inl a) (inl b) (inl c) (inl d) (inl e) (inl f) = of_ts a b c d e f (ts_form b.0)

-- ---- headers

header_in : (value rest : List ℕ) → HasScheme value rest → Decided ((h : HeaderData) × IsHeader value h)
header_in value rest scheme = elim (attributes (skip_spaces rest)) [
  | inr none ↦ inr (no_list none)
  | inl all ↦ (elim (said all.0) [
    | inr none ↦ inr (λ k. not_said value rest all.0 scheme all.1 (λ h s. none (h, s)) k.0 k.1)
    | inl h ↦ inl (h.0, record { rest = rest; scheme = scheme; attributes = all.0; listed = all.1; says = h.1 })
  ])
]
  where
    no_list : ¬ ((all : List AttributeData) × IsAttributes all (skip_spaces rest)) → ¬ ((h : HeaderData) × IsHeader value h)
    no_list none (h, k) =
        let e : 32 ∷ k.rest ≡ 32 ∷ rest = sym k.scheme.space ∙ scheme.space in
        let same : k.rest ≡ rest = cc in
        none (k.attributes, subst (λ (r : List ℕ). IsAttributes k.attributes (skip_spaces r)) same k.listed)

pub header : (value : List ℕ) → Decided ((h : HeaderData) × IsHeader value h)
header value = by (same_text (map to_ascii_lowercase (take 4 value)) (codes "hawk")) (starts 32 (drop 4 value)) where
  by : Decided (map to_ascii_lowercase (take 4 value) ≡ codes "hawk") → ((rest : List ℕ) × (drop 4 value ≡ 32 ∷ rest)) ⊎ ((rest : List ℕ) → drop 4 value ≢ 32 ∷ rest) → Decided ((h : HeaderData) × IsHeader value h)
  by (inl name) (inl rest) = header_in value rest.0 (record { name = name; space = rest.1 })
  by (inl name) (inr none) = inr (λ k. none k.1.rest k.1.scheme.space)
  by (inr other) space = inr (λ k. other k.1.scheme.name)

-- ---- clients

pub client : (clients : List ClientData) (id : List ℕ) → All (λ c. c.id ≢ id) clients ⊎ ((c : ClientData) × IsClientOf clients id c)
client [] id = inl (All-nil (λ (c : ClientData). c.id ≢ id))
client (c ∷ cs) id = by (same_text c.id id) (client cs id) where
  by : Decided (c.id ≡ id) → All (λ d. d.id ≢ id) cs ⊎ ((d : ClientData) × IsClientOf cs id d) → All (λ d. d.id ≢ id) (c ∷ cs) ⊎ ((d : ClientData) × IsClientOf (c ∷ cs) id d)
  by (inl same) rest = inr (c, ((0, omega arith, refl), same))
  by (inr other) (inl none) = inl (All-cons (λ (d : ClientData). d.id ≢ id) c cs other none)
  by (inr other) (inr (d, ((k, lt, here), same))) = inr (d, ((suc k, omega (arith, lt), here), same))

-- ---- documents

no_number : (n : json.Num) → ((z : ℤ) → number_of z ≢ n) → ¬ ((d : Document) × (data_of d ≡ json.number n))
no_number n none (null, e) = cc
no_number n none (boolean b, e) = cc
no_number n none (whole z, e) = none z cc
no_number n none (text s, e) = cc
no_number n none (array ds, e) = cc
no_number n none (object ms, e) = cc

no_positive : (n : ℕ) (z : ℤ) → number_of z ≢ json.negative (pos n)
no_positive n (pos m) e = cc
no_positive n (negsuc m) e = let same : negsuc m ≡ pos n = cc in cc

no_float : (x : _) (z : ℤ) → number_of z ≢ json.float x
no_float x (pos m) e = cc
no_float x (negsuc m) e = cc

no_array : (ds : json.Items) → ¬ ((es : Items) × (items_data es ≡ ds)) → ¬ ((d : Document) × (data_of d ≡ json.array ds))
no_array ds none (null, e) = cc
no_array ds none (boolean b, e) = cc
no_array ds none (whole z, e) = cc
no_array ds none (text s, e) = cc
no_array ds none (array es, e) = none (es, cc)
no_array ds none (object ms, e) = cc

no_object : (ms : json.Members) → ¬ ((ns : Members) × (members_data ns ≡ ms)) → ¬ ((d : Document) × (data_of d ≡ json.object ms))
no_object ms none (null, e) = cc
no_object ms none (boolean b, e) = cc
no_object ms none (whole z, e) = cc
no_object ms none (text s, e) = cc
no_object ms none (array es, e) = cc
no_object ms none (object ns, e) = none (ns, cc)

more_items : (d : json.Data) (ds : json.Items) → Decided ((x : Document) × (data_of x ≡ d)) → Decided ((xs : Items) × (items_data xs ≡ ds)) → Decided ((xs : Items) × (items_data xs ≡ json.item d ds))
more_items d ds (inl a) (inl b) = inl (item a.0 b.0, ap₂ json.item a.1 b.1)
more_items d ds (inl a) (inr none) = inr no where
  no : ¬ ((xs : Items) × (items_data xs ≡ json.item d ds))
  no (no_items, e) = cc
  no (item x xs, e) = none (xs, cc)
more_items d ds (inr none) b = inr no where
  no : ¬ ((xs : Items) × (items_data xs ≡ json.item d ds))
  no (no_items, e) = cc
  no (item x xs, e) = none (x, cc)

more_members : (k : List ℕ) (d : json.Data) (ms : json.Members) → Decided ((x : Document) × (data_of x ≡ d)) → Decided ((ns : Members) × (members_data ns ≡ ms)) → Decided ((ns : Members) × (members_data ns ≡ json.member k d ms))
more_members k d ms (inl a) (inl b) = inl (member k a.0 b.0, ap₂ (json.member k) a.1 b.1)
more_members k d ms (inl a) (inr none) = inr no where
  no : ¬ ((ns : Members) × (members_data ns ≡ json.member k d ms))
  no (no_members, e) = cc
  no (member l x ns, e) = none (ns, cc)
more_members k d ms (inr none) b = inr no where
  no : ¬ ((ns : Members) × (members_data ns ≡ json.member k d ms))
  no (no_members, e) = cc
  no (member l x ns, e) = none (x, cc)

some_array : (ds : json.Items) → Decided ((es : Items) × (items_data es ≡ ds)) → Decided ((d : Document) × (data_of d ≡ json.array ds))
some_array ds (inl es) = inl (array es.0, ap json.array es.1)
some_array ds (inr none) = inr (no_array ds none)

some_object : (ms : json.Members) → Decided ((ns : Members) × (members_data ns ≡ ms)) → Decided ((d : Document) × (data_of d ≡ json.object ms))
some_object ms (inl ns) = inl (object ns.0, ap json.object ns.1)
some_object ms (inr none) = inr (no_object ms none)

mutual
  -- a value of serde_json is a document
  image : (v : json.Data) → Decided ((d : Document) × (data_of d ≡ v))
  image json.null = inl (null, refl)
  image (json.boolean b) = inl (boolean b, refl)
  image (json.number (json.unsigned n)) = inl (whole (pos n), refl)
  image (json.number (json.negative (pos n))) = inr (no_number (json.negative (pos n)) (no_positive n))
  image (json.number (json.negative (negsuc n))) = inl (whole (negsuc n), refl)
  image (json.number (json.float x)) = inr (no_number (json.float x) (no_float x))
  image (json.string s) = inl (text s, refl)
  image (json.array ds) = some_array ds (images ds)
  image (json.object ms) = some_object ms (member_images ms)

  images : (ds : json.Items) → Decided ((es : Items) × (items_data es ≡ ds))
  images json.no_items = inl (no_items, refl)
  images (json.item d ds) = more_items d ds (image d) (images ds)

  member_images : (ms : json.Members) → Decided ((ns : Members) × (members_data ns ≡ ms))
  member_images json.no_members = inl (no_members, refl)
  member_images (json.member k d ms) = more_members k d ms (image d) (member_images ms)

empty : (xs : List (List ℕ)) → Decided (xs ≡ [])
empty [] = inl refl
empty (x ∷ xs) = inr (λ e. cc)

some_same : {X : Type 0} {x y : X} → Some x ≡ Some y → x ≡ y
some_same e = cc

document : (content : List ℕ) → Decided ((d : Document) × IsDocument content d)
document content = by (is_true (is_utf8 content)) (read content) refl where
  whole_or : (u : is_utf8 content ≡ true) (v : json.Data) → read content ≡ Some v → (d : (d : Document) × (data_of d ≡ v)) → Decided (unwhole (data_of d.0) ≡ []) → Decided ((d : Document) × IsDocument content d)
  whole_or u v is d (inl no_more) =
      inl (d.0, record { json = (IsUtf8-from_is_utf8 content u, is ∙ ap (λ (x : json.Data). Some x) (sym d.1)); whole = no_more })
  whole_or u v is d (inr some) =
      inr (
      λ k.
      let same : k.0 ≡ d.0 = IsJson-one content k.0 d.0 k.1.json (IsUtf8-from_is_utf8 content u, is ∙ ap (λ (x : json.Data). Some x) (sym d.1)) in
      some (subst (λ (x : Document). unwhole (data_of x) ≡ []) same k.1.whole)
      )

  value : (u : is_utf8 content ≡ true) (v : json.Data) → read content ≡ Some v → Decided ((d : Document) × (data_of d ≡ v)) → Decided ((d : Document) × IsDocument content d)
  value u v is (inl d) = whole_or u v is d (empty (unwhole (data_of d.0)))
  value u v is (inr none) = inr (λ k. none (k.0, some_same (sym k.1.json.1 ∙ is)))

  by : Decided (is_utf8 content ≡ true) → (o : Option json.Data) → read content ≡ o → Decided ((d : Document) × IsDocument content d)
  by (inr off) o is = inr (λ k. off (is_utf8-from_IsUtf8 content k.1.json.0))
  by (inl u) None is = inr (λ k. let e : None ≡ Some (data_of k.0) = sym is ∙ k.1.json.1 in cc)
  by (inl u) (Some v) is = value u v is (image v)

-- ---- what a document allows

more_texts : (ds : Items) (t : List ℕ) → Decided ((ts : List (List ℕ)) × (ds ≡ items_of (map text ts))) → Decided ((ts : List (List ℕ)) × (item (text t) ds ≡ items_of (map text ts)))
more_texts ds t (inl ts) = inl (t ∷ ts.0, ap (item (text t)) ts.1)
more_texts ds t (inr none) = inr no where
  no : ¬ ((ts : List (List ℕ)) × (item (text t) ds ≡ items_of (map text ts)))
  no ([], e) = cc
  no (u ∷ ts, e) = none (ts, cc)

no_texts : (d : Document) (ds : Items) → ((t : List ℕ) → d ≢ text t) → ¬ ((ts : List (List ℕ)) × (item d ds ≡ items_of (map text ts)))
no_texts d ds other ([], e) = cc
no_texts d ds other (u ∷ ts, e) = other u cc

texts : (ds : Items) → Decided ((ts : List (List ℕ)) × (ds ≡ items_of (map text ts)))
texts no_items = inl ([], refl)
texts (item (text t) ds) = more_texts ds t (texts ds)
texts (item null ds) = inr (no_texts null ds (λ t e. cc))
texts (item (boolean b) ds) = inr (no_texts (boolean b) ds (λ t e. cc))
texts (item (whole z) ds) = inr (no_texts (whole z) ds (λ t e. cc))
texts (item (array es) ds) = inr (no_texts (array es) ds (λ t e. cc))
texts (item (object ms) ds) = inr (no_texts (object ms) ds (λ t e. cc))

two_stars : (s : List ℕ) → Decided (EndsWithTwoStars s)
two_stars [] = inr no where
  no : ¬ EndsWithTwoStars []
  no ([], e) = cc
  no (f ∷ front, e) = cc
two_stars (b ∷ s) = by (same_text (b ∷ s) (star ∷ star ∷ [])) (two_stars s) where
  by : Decided (b ∷ s ≡ star ∷ star ∷ []) → Decided (EndsWithTwoStars s) → Decided (EndsWithTwoStars (b ∷ s))
  by (inl e) rest = inl ([], e)
  by (inr other) (inl ends) = inl (b ∷ ends.0, ap (λ (t : List ℕ). b ∷ t) ends.1)
  by (inr other) (inr none) = inr no where
    no : ¬ EndsWithTwoStars (b ∷ s)
    no ([], e) = other e
    no (f ∷ front, e) = none (front, cc)

scope : (t : List ℕ) → Decided (IsScope t)
scope t = by (each IsPrintable (λ b. both (at_most 32 b) (at_most b 126)) t) (at_most (length t) 4096) (neither (two_stars t)) where
  by : Decided (All IsPrintable t) → Decided (length t ≤ 4096) → Decided (¬ EndsWithTwoStars t) → Decided (IsScope t)
  by (inl p) (inl q) (inl r) = inl (record { printable = p; form = record { short = q; plain = r } })
  by (inl p) (inl q) (inr r) = inr (λ s. r s.form.plain)
  by (inl p) (inr q) r = inr (λ s. q s.form.short)
  by (inr p) q r = inr (λ s. p s.printable)

not_scopes : (d : Document) → ((ds : Items) → d ≢ array ds) → ¬ ((scopes : List (List ℕ)) × AreScopes d scopes)
not_scopes d other (ts, h) = other (items_of (map text ts)) h.is

array_same : {a b : Items} → array a ≡ array b → a ≡ b
array_same e = cc

scopes_in : (ds : Items) → Decided ((ts : List (List ℕ)) × (ds ≡ items_of (map text ts))) → Decided ((scopes : List (List ℕ)) × AreScopes (array ds) scopes)
scopes_in ds (inr none) = inr (λ h. none (h.0, array_same h.1.is))
scopes_in ds (inl ts) = by (each IsScope scope ts.0) where
  by : Decided (All IsScope ts.0) → Decided ((scopes : List (List ℕ)) × AreScopes (array ds) scopes)
  by (inl formed) = inl (ts.0, record { is = ap array ts.1; formed = formed })
  by (inr off) =
      inr (
      λ h.
      let here : AreScopes (array ds) ts.0 → ⊥ = λ k. off k.formed in
      let same : h.0 ≡ ts.0 = texts_once h.0 ts.0 (sym (array_same h.1.is) ∙ ts.1) in
      here (subst (λ (x : List (List ℕ)). AreScopes (array ds) x) same h.1)
      )

scopes : (d : Document) → Decided ((scopes : List (List ℕ)) × AreScopes d scopes)
scopes null = inr (not_scopes null (λ ds e. cc))
scopes (boolean b) = inr (not_scopes (boolean b) (λ ds e. cc))
scopes (whole z) = inr (not_scopes (whole z) (λ ds e. cc))
scopes (text t) = inr (not_scopes (text t) (λ ds e. cc))
scopes (array ds) = scopes_in ds (texts ds)
scopes (object ms) = inr (not_scopes (object ms) (λ ds e. cc))

allows_only : (o : Option Document) → Decided ((allowed : Option (List (List ℕ))) × AllowsOnly o allowed)
allows_only None = inl (None, tt)
allows_only (Some d) = elim (scopes d) [
  | inl found ↦ inl (Some found.0, found.1)
  | inr none ↦ inr (not_only d none)
]
  where
    not_only : (d : Document) → ¬ ((scopes : List (List ℕ)) × AreScopes d scopes) → ¬ ((allowed : Option (List (List ℕ))) × AllowsOnly (Some d) allowed)
    not_only d none (None, h) = h
    not_only d none (Some ts, h) = none (ts, h)

nothing : (o : Option Document) → Decided (o ≡ None)
nothing None = inl refl
nothing (Some d) = inr (λ e. cc)

is_object : (d : Document) → Decided (IsObject d)
is_object null = inr (λ h. h)
is_object (boolean b) = inr (λ h. h)
is_object (whole z) = inr (λ h. h)
is_object (text t) = inr (λ h. h)
is_object (array ds) = inr (λ h. h)
is_object (object ms) = inl tt

allows : (d : Document) → Decided ((allowed : Option (List (List ℕ))) × Allows d allowed)
allows d = by (is_object d) (nothing (get (codes "certificate") d)) (allows_only (get (codes "authorizedScopes") d)) where
  by : Decided (IsObject d) → Decided (get (codes "certificate") d ≡ None) → Decided ((allowed : Option (List (List ℕ))) × AllowsOnly (get (codes "authorizedScopes") d) allowed) → Decided ((allowed : Option (List (List ℕ))) × Allows d allowed)
  by (inl p) (inl q) (inl r) = inl (r.0, record { is_object = p; free = q; scopes = r.1 })
  by (inl p) (inl q) (inr r) = inr (λ k. r (k.0, k.1.scopes))
  by (inl p) (inr q) r = inr (λ k. q k.1.free)
  by (inr p) q r = inr (λ k. p k.1.is_object)

-- ---- what an ext allows

bytes_cons : (b : ℕ) (bs : List ℕ) → b < 256 → IsBytes bs → IsBytes (b ∷ bs)
bytes_cons b bs p h zero = p
bytes_cons b bs p h (suc i) = h i

bytes : (bs : List ℕ) → Decided (IsBytes bs)
bytes [] = inl (λ i. omega arith)
bytes (b ∷ bs) = by (at_most (b + 1) 256) (bytes bs) where
  by : Decided (b + 1 ≤ 256) → Decided (IsBytes bs) → Decided (IsBytes (b ∷ bs))
  by (inl p) (inl h) = inl (bytes_cons b bs (omega (arith, p)) h)
  by (inl p) (inr none) = inr (λ h. none (λ i. h (suc i)))
  by (inr p) h = inr (λ k. p (let q : b < 256 = k 0 in omega (arith, q)))

consistent : IsConsistent standard
consistent = search rules

strict : IsStrict standard
strict = search rules

content_is : (ext content : List ℕ) → IsBytes content → ext ≡ encode_of standard content → decode_of standard ext ≡ Ok content
content_is ext content is encoded = ap (decode_of standard) encoded ∙ decode_of-encode_of standard content consistent is

same_content : (ext a b : List ℕ) → decode_of standard ext ≡ Ok a → decode_of standard ext ≡ Ok b → a ≡ b
same_content ext a b p q = let e = sym p ∙ q in cc

ext_of : (ext content : List ℕ) → IsBytes content → ext ≡ encode_of standard content → Decided ((d : Document) × IsDocument content d) → Decided ((allowed : Option (List (List ℕ))) × IsExt ext allowed)
ext_of ext content is encoded (inr none) =
    inr (
    λ k.
    let same : k.1.content ≡ content = encode_once k.1.content content k.1.bytes is (sym k.1.encoded ∙ encoded) in
    none (k.1.d, subst (λ (x : List ℕ). IsDocument x k.1.d) same k.1.document)
    )
ext_of ext content is encoded (inl d) = by (allows d.0) where
  by : Decided ((allowed : Option (List (List ℕ))) × Allows d.0 allowed) → Decided ((allowed : Option (List (List ℕ))) × IsExt ext allowed)
  by (inl found) = inl (found.0, record { content = content; bytes = is; encoded = encoded; d = d.0; document = d.1; allows = found.1 })
  by (inr none) =
      inr (
      λ k.
      let same : k.1.content ≡ content = encode_once k.1.content content k.1.bytes is (sym k.1.encoded ∙ encoded) in
      let here = subst (λ (x : List ℕ). IsDocument x k.1.d) same k.1.document in
      let one : k.1.d ≡ d.0 = IsJson-one content k.1.d d.0 here.json d.1.json in
      none (k.0, subst (λ (x : Document). Allows x k.0) one k.1.allows)
      )

ext_in : (ext : List ℕ) → IsBytes ext → Decided ((allowed : Option (List (List ℕ))) × IsExt ext allowed)
ext_in ext text_bytes = by (decode_of standard ext) refl where
  by : (r : Result (List ℕ) DecodeError) → decode_of standard ext ≡ r → Decided ((allowed : Option (List (List ℕ))) × IsExt ext allowed)
  by (Err e) is = inr (λ k. let x : Ok k.1.content ≡ Err e = sym (content_is ext k.1.content k.1.bytes k.1.encoded) ∙ is in cc)
  by (Ok content) is = elim (bytes content) [
    | inl good ↦ ext_of ext content good (decode_of_strict standard ext content strict text_bytes is) (document content)
    | inr bad ↦ inr (λ k. bad (subst IsBytes (same_content ext k.1.content content (content_is ext k.1.content k.1.bytes k.1.encoded) is) k.1.bytes))
  ]

ext_some : (ext : List ℕ) → Decided ((allowed : Option (List (List ℕ))) × IsExt ext allowed)
ext_some ext = elim (bytes ext) [
  | inl good ↦ ext_in ext good
  | inr bad ↦ inr (λ k. bad (subst IsBytes (sym k.1.encoded) (λ i. let f = IsAscii-encode_of standard k.1.content i in omega (arith, f))))
]

limits : (ext : Option (List ℕ)) → Decided ((allowed : Option (List (List ℕ))) × Limits ext allowed)
limits None = inl (None, refl)
limits (Some ext) = ext_some ext

-- ---- the conditions in their order

-- it gives an access, or none
abbrev Gives : (Access → Type 0) → Type 0
Gives P = ((a : Access) × P a) ⊎ ((a : Access) → ¬ P a)

first : (P : Access → Type 0) (Ps : List (Access → Type 0)) → Gives P → ((a : Access) × IsFirst Ps a) → (a : Access) × IsFirst (P ∷ Ps) a
first P Ps (inl here) later = (here.0, inl here.1)
first P Ps (inr none) later = (later.0, inr (none, later.1))

refused : (condition : Type 0) (refusal : Refusal) → Decided condition → Gives (Refused condition refusal)
refused condition refusal (inl holds) = inl (Err refusal, (holds, refl))
refused condition refusal (inr not) = inr (λ a r. not r.0)

far : (a b : ℕ) → Decided (AreFar a b)
far a b = by (at_most (a + 901) b) (at_most (b + 901) a) where
  by : Decided (a + 901 ≤ b) → Decided (b + 901 ≤ a) → Decided (AreFar a b)
  by (inl p) q = inl (inl (omega (arith, p)))
  by (inr p) (inl q) = inl (inr (omega (arith, q)))
  by (inr p) (inr q) = inr no where
    no : ¬ AreFar a b
    no (inl r) = p (omega (arith, r))
    no (inr r) = q (omega (arith, r))

other_hash : (head : HeadData) (hash : Option (List ℕ)) → Decided (HasOtherHash head hash)
other_hash head None = inr (λ h. h)
other_hash head (Some hash) = neither (same_text hash (payload_hash_of head.content_type head.body))

module _ (longest : ℕ) (roles : List RoleData) (accepted : IsAccepted longest roles) where
  pub expands : (start : List (List ℕ)) → (a : Access) × Expands roles start a
  expands start = elim (closure_or_too_many 10_000 longest roles start accepted) [
    | inl set ↦ (Ok set.0, set.1)
    | inr more ↦ (Err TooMany, (more, refl))
  ]

  within_some : (own scopes : List (List ℕ)) → (a : Access) × IsFirst (within_conditions roles own scopes) a
  within_some own scopes = by (closure_or_too_many 10_000 longest roles own accepted) where
    closed : (set : List (List ℕ)) → IsClosure 10_000 roles own set → (o : Option Expression) → missing set (all_scopes scopes) ≡ o → (a : Access) × IsFirst (within_conditions roles own scopes) a
    closed set closure (Some lack) is =
        (Err (Oversteps lack), inr (λ a r. closure_or_more 10_000 roles own set closure r.0, inl (set, lack, closure, (is, refl))))
    closed set closure None is =
        let some = expands scopes in
        (some.0, holds_all roles own scopes set closure (closure_or_more 10_000 roles own set closure) (λ other k. closure_is_one 10_000 roles own other set k closure) is some.0 some.1)

    by : ((set : List (List ℕ)) × IsClosure 10_000 roles own set) ⊎ HasMoreDerivable 10_000 roles own → (a : Access) × IsFirst (within_conditions roles own scopes) a
    by (inr more) = (Err TooMany, inl (more, refl))
    by (inl set) = closed set.0 set.1 (missing set.0 (all_scopes scopes)) refl

  ext_conditions_some : (h : HeaderData) (c : ClientData) → (a : Access) × IsFirst (ext_conditions roles h c) a
  ext_conditions_some h c = by (limits h.ext) where
    once : (x y : Option (List (List ℕ))) → Limits h.ext x → Limits h.ext y → x ≡ y
    once = limits_once IsJson-one h.ext

    by : Decided ((allowed : Option (List (List ℕ))) × Limits h.ext allowed) → (a : Access) × IsFirst (ext_conditions roles h c) a
    by (inr none) = (Err BadExt, inl (λ allowed l. none (allowed, l), refl))
    by (inl (None, all)) = let some = expands (own_scopes c) in (some.0, expands_own roles h c once all some.0 some.1)
    by (inl (Some scopes, only)) = let some = within_some (own_scopes c) scopes in (some.0, within roles h c once scopes only some.0 some.1)

  conditions_some : (head : HeadData) (now : ℕ) (h : HeaderData) (c : ClientData) → (a : Access) × IsFirst (conditions roles head now h c) a
  conditions_some head now h c =
      let hashed : List (Access → Type 0) = Refused (HasOtherHash head h.hash) BadHash ∷ ext_conditions roles h c in
      let signed : List (Access → Type 0) = Refused (h.mac ≢ mac_of (signed_parts head h c)) BadMac ∷ hashed in
      let timely : List (Access → Type 0) = Refused (AreFar (seconds_of h.ts) (now / 1000)) (Skew (seconds_of h.ts) (now / 1000)) ∷ signed in
      let current : List (Access → Type 0) = Refused (c.expires ≤ now) Expired ∷ timely in
      let by_hash = first (Refused (HasOtherHash head h.hash) BadHash) (ext_conditions roles h c) (refused (HasOtherHash head h.hash) BadHash (other_hash head h.hash)) (ext_conditions_some h c) in
      let by_mac = first (Refused (h.mac ≢ mac_of (signed_parts head h c)) BadMac) hashed (refused (h.mac ≢ mac_of (signed_parts head h c)) BadMac (neither (same_text h.mac (mac_of (signed_parts head h c))))) by_hash in
      let by_time = first (Refused (AreFar (seconds_of h.ts) (now / 1000)) (Skew (seconds_of h.ts) (now / 1000))) signed (refused (AreFar (seconds_of h.ts) (now / 1000)) (Skew (seconds_of h.ts) (now / 1000)) (far (seconds_of h.ts) (now / 1000))) by_mac in
      let by_expiry = first (Refused (c.expires ≤ now) Expired) timely (refused (c.expires ≤ now) Expired (at_most c.expires now)) by_time in
      first (Refused (c.disabled ≡ true) Disabled) current (refused (c.disabled ≡ true) Disabled (is_true c.disabled)) by_expiry

  known_some : (clients : List ClientData) (head : HeadData) (now : ℕ) (value : List ℕ) → head.count ≡ 1 → (h : HeaderData) → IsHeader value h → All (λ c. c.id ≢ h.id) clients ⊎ ((c : ClientData) × IsClientOf clients h.id c) → (a : Access) × HasSignedAccess clients roles head now value a
  known_some clients head now value once h is (inl none) = (Err UnknownClient, inr (once, (h, is, inl (none, refl))))
  known_some clients head now value once h is (inr (c, of)) =
      let some = conditions_some head now h c in (some.0, inr (once, (h, is, inr (c, of, some.1))))

  signed_some : (clients : List ClientData) (head : HeadData) (now : ℕ) (value : List ℕ) → (a : Access) × HasSignedAccess clients roles head now value a
  signed_some clients head now value = by (same_number head.count 1) (header value) where
    by : Decided (head.count ≡ 1) → Decided ((h : HeaderData) × IsHeader value h) → (a : Access) × HasSignedAccess clients roles head now value a
    by (inr other) h = (Err BadHeader, inl (inl other, refl))
    by (inl once) (inr none) = (Err BadHeader, inl (inr (λ h is. none (h, is)), refl))
    by (inl once) (inl h) = known_some clients head now value once h.0 h.1 (client clients h.0.id)

  by_header : (clients : List ClientData) (head : HeadData) (now : ℕ) (value : Option (List ℕ)) → (a : Access) × HasAccessBy clients roles head now value a
  by_header clients head now None = expands anonymous_scopes
  by_header clients head now (Some value) = signed_some clients head now value

  pub access_some : (clients : List ClientData) (head : HeadData) (now : ℕ) → (a : Access) × HasAccess clients roles head now a
  access_some clients head now = by_header clients head now head.header
