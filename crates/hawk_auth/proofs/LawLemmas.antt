-- A header says one thing, and an id is of one client.
use Rattle.std.proofs.Common.{◌≡◌, ◌≢◌, inl, inr, ℕ, ◌<◌, List, [], ◌∷◌, length, get_or, refl, sym, ap, ◌∙◌, subst, arith}
use Rattle.std.specs.Prelude.{Option, Some, None, codes, AllPairs}
use Rattle.std.proofs.lemmas.Bool.{cases_lt}
use Rattle.std.proofs.lemmas.List.{get_or_default}
use Rattle.hawk_auth.specs.Clients.{ClientData, IsBook, IsClientOf}
use Rattle.hawk_auth.specs.Header.{AttributeData, HeaderData, IsAttributes, IsHeader, IsOptional, IsRequired, Says, values_of}
use Rattle.hawk_auth.specs.Mac.{skip_spaces}
use Rattle.hawk_auth.proofs.AttributeLemmas.{attributes_once}
use Rattle.hawk_auth.proofs.HeaderLemmas.{scheme_once}

pub required_once : (values : List (List ℕ)) (v w : List ℕ) → IsRequired values v → IsRequired values w → v ≡ w
required_once values v w h k = let e : v ∷ [] ≡ w ∷ [] = sym h.0 ∙ k.0 in cc

not_empty : (v : List ℕ) → 0 < length v → v ≡ [] → ⊥
not_empty v some e = let z : length v ≡ 0 = ap length e in omega (arith, some, z)

optional_once : (values : List (List ℕ)) (a b : Option (List ℕ)) → IsOptional values a → IsOptional values b → a ≡ b
optional_once values None None h k = refl
optional_once values (Some v) (Some w) h k = ap (λ (x : List ℕ). Some x) (required_once values v w h k)
optional_once values None (Some w) (inl h) k = let e : [] ≡ w ∷ [] = sym h ∙ k.0 in absurd cc
optional_once values None (Some w) (inr h) k = let e : [] ∷ [] ≡ w ∷ [] = sym h ∙ k.0 in let z : w ≡ [] = cc in absurd (not_empty w k.1 z)
optional_once values (Some v) None h (inl k) = let e : [] ≡ v ∷ [] = sym k ∙ h.0 in absurd cc
optional_once values (Some v) None h (inr k) = let e : [] ∷ [] ≡ v ∷ [] = sym k ∙ h.0 in let z : v ≡ [] = cc in absurd (not_empty v h.1 z)

same_header : (h k : HeaderData) → h.id ≡ k.id → h.ts ≡ k.ts → h.nonce ≡ k.nonce → h.mac ≡ k.mac → h.hash ≡ k.hash → h.ext ≡ k.ext → h ≡ k
same_header h k a b c d e f =
    ap (λ (x : List ℕ). let r : HeaderData = record { id = x; ts = h.ts; nonce = h.nonce; mac = h.mac; hash = h.hash; ext = h.ext } in r) a
    ∙ ap (λ (x : List ℕ). let r : HeaderData = record { id = k.id; ts = x; nonce = h.nonce; mac = h.mac; hash = h.hash; ext = h.ext } in r) b
    ∙ ap (λ (x : List ℕ). let r : HeaderData = record { id = k.id; ts = k.ts; nonce = x; mac = h.mac; hash = h.hash; ext = h.ext } in r) c
    ∙ ap (λ (x : List ℕ). let r : HeaderData = record { id = k.id; ts = k.ts; nonce = k.nonce; mac = x; hash = h.hash; ext = h.ext } in r) d
    ∙ ap (λ (x : Option (List ℕ)). let r : HeaderData = record { id = k.id; ts = k.ts; nonce = k.nonce; mac = k.mac; hash = x; ext = h.ext } in r) e
    ∙ ap (λ (x : Option (List ℕ)). let r : HeaderData = record { id = k.id; ts = k.ts; nonce = k.nonce; mac = k.mac; hash = k.hash; ext = x } in r) f

says_once : (all : List AttributeData) (h k : HeaderData) → Says all h → Says all k → h ≡ k
says_once all h k p q =
    same_header h k (required_once (values_of (codes "id") all) h.id k.id p.id q.id) (required_once (values_of (codes "ts") all) h.ts k.ts p.ts q.ts)
    (required_once (values_of (codes "nonce") all) h.nonce k.nonce p.nonce q.nonce) (required_once (values_of (codes "mac") all) h.mac k.mac p.mac q.mac)
    (optional_once (values_of (codes "hash") all) h.hash k.hash p.hash q.hash) (optional_once (values_of (codes "ext") all) h.ext k.ext p.ext q.ext)

pub header_once : (text : List ℕ) (h k : HeaderData) → IsHeader text h → IsHeader text k → h ≡ k
header_once text h k p q =
    let rests : q.rest ≡ p.rest = scheme_once text q.rest p.rest q.scheme p.scheme in
    let all : q.attributes ≡ p.attributes =
    attributes_once q.attributes p.attributes (skip_spaces p.rest) (subst (λ (r : List ℕ). IsAttributes q.attributes (skip_spaces r)) rests q.listed) p.listed in
    says_once p.attributes h k p.says (subst (λ (xs : List AttributeData). Says xs k) all q.says)

apart : (clients : List ClientData) → AllPairs (λ c d. c.id ≢ d.id) clients → (i j : ℕ) (c d : ClientData) → i < j → j < length clients
    → get_or clients i c ≡ c → get_or clients j d ≡ d → c.id ≡ d.id → ⊥
apart clients all i j c d less lt here there same =
    all i j c less lt (ap (λ (x : ClientData). x.id) here ∙ same ∙ sym (ap (λ (x : ClientData). x.id) (get_or_default clients j c d lt ∙ there)))

pub client_once : (clients : List ClientData) (id : List ℕ) (c d : ClientData) → IsBook clients → IsClientOf clients id c → IsClientOf clients id d → c ≡ d
client_once clients id c d book ((i, lt, here), e) ((j, low, there), f) = elim (cases_lt i j) [
  | inl less ↦ absurd (apart clients book.apart i j c d less low here there (e ∙ sym f))
  | inr more ↦ (elim (cases_lt j i) [
    | inl less ↦ absurd (apart clients book.apart j i d c less lt there here (f ∙ sym e))
    | inr other ↦
        let same : i ≡ j = omega (arith, more, other) in
        sym here ∙ ap (λ (n : ℕ). get_or clients n c) same ∙ get_or_default clients j c d low ∙ there
  ])
]
