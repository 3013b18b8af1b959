-- The access of a caller, by the conditions in their order.
use Rattle.std.proofs.Common.{◌≡◌, inl, inr, ℕ, ◌+◌, ◌-◌, ◌*◌, ◌^◌, ◌<◌, ◌≤◌, List, [], ◌∷◌, length, take, get_or, refl, sym, ap, ◌∙◌, subst, lit<, rules}
use Rattle.std.specs.Prelude.{codes, map, Option, Some, None, Result, Ok, Err}
use Rattle.std.specs.Int.Digits.{number_from_digits}
use Rattle.std.proofs.lemmas.List.{take_more, map_push}
use Rattle.std.proofs.lemmas.Int.Digits.{number_push}
use Rattle.std.proofs.Math.Nat.{pow-le-pow_right}
use Rattle.base64.specs.GeneralPurpose.{encode_of, IsBytes, IsConsistent, decode_of}
use Rattle.base64.specs.Engines.{standard}
use Rattle.base64.proofs.EngineFacts.{decode_of-encode_of}
use Rattle.scope_sets.specs.Expressions.{Expression, missing, view}
use Rattle.role_expand.specs.Roles.{RoleData}
use Rattle.role_expand.specs.Closures.{IsClosure, HasMoreDerivable}
use Rattle.farm_text.specs.Document.{Document, text, array, items_of, data_of, get}
use Rattle.farm_text.specs.Reading.{IsJson}
use Rattle.hawk_auth.specs.Header.{HeaderData}
use Rattle.hawk_auth.specs.Clients.{ClientData}
use Rattle.hawk_auth.specs.Ext.{Allows, AllowsOnly, AreScopes, IsExt}
use Rattle.hawk_auth.specs.Access.{Access, BadHeader, UnknownClient, Disabled, Expired, Skew, BadMac, BadHash, BadExt, Oversteps, TooMany, Expands, IsFirst, Limits, Refused, UnlessNoMemory, all_scopes, ext_conditions, own_scopes, seconds_of}
use Rattle.hawk_auth.specs.Admitted.{within_conditions}
use Rattle.hawk_auth.specs.declared.check.AuthFault.{AuthFault}
use Rattle.hawk_auth.specs.declared.check.AuthFault.TheVariants as told
use Rattle.hawk_auth.proofs.ExtLemmas.{same_lists}

pub unless : (P Q : Access → Type 0) → ((a : Access) → P a → Q a) → (a : Result (List (List ℕ)) AuthFault) → UnlessNoMemory P a → UnlessNoMemory Q a
unless P Q f (Ok set) h = f (Ok set) h
unless P Q f (Err told.BadHeader) h = f (Err BadHeader) h
unless P Q f (Err told.UnknownClient) h = f (Err UnknownClient) h
unless P Q f (Err told.Disabled) h = f (Err Disabled) h
unless P Q f (Err told.Expired) h = f (Err Expired) h
unless P Q f (Err (told.Skew ts now)) h = f (Err (Skew ts now)) h
unless P Q f (Err told.BadMac) h = f (Err BadMac) h
unless P Q f (Err told.BadHash) h = f (Err BadHash) h
unless P Q f (Err told.BadExt) h = f (Err BadExt) h
unless P Q f (Err (told.Oversteps lack)) h = f (Err (Oversteps (view lack))) h
unless P Q f (Err told.TooMany) h = f (Err TooMany) h
unless P Q f (Err told.NoMemory) h = h

-- the next condition, where one never holds
pub next : (P : Access → Type 0) (Ps : List (Access → Type 0)) → ((o : Access) → ¬ P o) → (a : Result (List (List ℕ)) AuthFault) → UnlessNoMemory (IsFirst Ps) a → UnlessNoMemory (IsFirst (P ∷ Ps)) a
next P Ps none = unless (IsFirst Ps) (IsFirst (P ∷ Ps)) (λ a h. inr (none, h))

-- ---- an ext allows one thing

abbrev text_in : Document → List ℕ
text_in (text t) = t
text_in _ = []

texts_back : (ts : List (List ℕ)) → map text_in (map text ts) ≡ ts
texts_back [] = refl
texts_back (t ∷ ts) = ap (λ (x : List (List ℕ)). t ∷ x) (texts_back ts)

pub texts_once : (s t : List (List ℕ)) → items_of (map text s) ≡ items_of (map text t) → s ≡ t
texts_once s t same = sym (texts_back s) ∙ ap (λ (ds : List Document). map text_in ds) (same_lists (map text s) (map text t) (ap array same)) ∙ texts_back t

scopes_once : (d : Document) (s t : List (List ℕ)) → AreScopes d s → AreScopes d t → s ≡ t
scopes_once d s t h k =
    let same : map text s ≡ map text t = same_lists (map text s) (map text t) (sym h.is ∙ k.is) in
    sym (texts_back s) ∙ ap (λ (ds : List Document). map text_in ds) same ∙ texts_back t

allows_once : (o : Option Document) (a b : Option (List (List ℕ))) → AllowsOnly o a → AllowsOnly o b → a ≡ b
allows_once None None None h k = refl
allows_once None (Some s) b h k = absurd h
allows_once None None (Some t) h k = absurd k
allows_once (Some d) None b h k = absurd h
allows_once (Some d) (Some s) None h k = absurd k
allows_once (Some d) (Some s) (Some t) h k = ap (λ (x : List (List ℕ)). Some x) (scopes_once d s t h k)

consistent : IsConsistent standard
consistent = search rules

pub encode_once : (x y : List ℕ) → IsBytes x → IsBytes y → encode_of standard x ≡ encode_of standard y → x ≡ y
encode_once x y h k e =
    let both : Ok x ≡ Ok y = sym (decode_of-encode_of standard x consistent h) ∙ ap (decode_of standard) e ∙ decode_of-encode_of standard y consistent k in
    cc

module _ (one : (bytes : List ℕ) (a b : Document) → IsJson bytes (data_of a) → IsJson bytes (data_of b) → a ≡ b) where
  pub ext_once : (ext : List ℕ) (a b : Option (List (List ℕ))) → IsExt ext a → IsExt ext b → a ≡ b
  ext_once ext a b h k =
      let content : k.content ≡ h.content = encode_once k.content h.content k.bytes h.bytes (sym k.encoded ∙ h.encoded) in
      let here : IsJson h.content (data_of k.d) = subst (λ (c : List ℕ). IsJson c (data_of k.d)) content k.document.json in
      let same : k.d ≡ h.d = one h.content k.d h.d here h.document.json in
      let allows : Allows h.d b = subst (λ (d : Document). Allows d b) same k.allows in
      allows_once (get (codes "authorizedScopes") h.d) a b h.allows.scopes allows.scopes

  pub limits_once : (ext : Option (List ℕ)) (a b : Option (List (List ℕ))) → Limits ext a → Limits ext b → a ≡ b
  limits_once None a b h k = h ∙ sym k
  limits_once (Some ext) a b h k = ext_once ext a b h k

-- ---- the conditions of an ext

module _ (roles : List RoleData) (h : HeaderData) (c : ClientData) (once : (x y : Option (List (List ℕ))) → Limits h.ext x → Limits h.ext y → x ≡ y) where
  none_some : {s : List (List ℕ)} → None ≡ Some s → ⊥
  none_some e = cc

  pub expands_own : Limits h.ext None → (a : Access) → Expands roles (own_scopes c) a → IsFirst (ext_conditions roles h c) a
  expands_own all a e =
      inr (λ o p. p.0 None all, inr (λ o p. none_some (once None (Some p.0) all p.1), inr (λ o p. none_some (once None (Some p.0) all p.3), inl (None, all, e))))

  some_same : {s t : List (List ℕ)} → Some s ≡ Some t → s ≡ t
  some_same e = cc

  pub within : (scopes : List (List ℕ)) → Limits h.ext (Some scopes) → (a : Access) → IsFirst (within_conditions roles (own_scopes c) scopes) a → IsFirst (ext_conditions roles h c) a
  within scopes only a (inl r) = inr (λ o p. p.0 (Some scopes) only, inl (scopes, only, r))
  within scopes only a (inr (n, inl (set, lack, closure, r))) = inr (λ o p. p.0 (Some scopes) only, inr (λ o p. n o p.2, inl (scopes, set, lack, only, closure, r)))
  within scopes only a (inr (n, inr (m, inl e))) =
      inr (
        λ o p. p.0 (Some scopes) only,
        inr (
          λ o p. n o p.2,
          inr (
            λ o p. m o (p.1, p.2, p.4, subst (λ (s : List (List ℕ)). Refused (missing p.1 (all_scopes s) ≡ Some p.2) (Oversteps p.2) o) (some_same (once (Some p.0) (Some scopes) p.3 only)) p.5),
            inl (Some scopes, only, e),
          ),
        ),
      )
  within scopes only a (inr (n, inr (m, inr (l, z)))) = absurd z

-- ---- where the client's own closure is known

module _ (roles : List RoleData) (own scopes set : List (List ℕ)) (closure : IsClosure 10_000 roles own set) (few : ¬ HasMoreDerivable 10_000 roles own)
    (one : (other : List (List ℕ)) → IsClosure 10_000 roles own other → other ≡ set) where
  pub holds_all : missing set (all_scopes scopes) ≡ None → (a : Access) → Expands roles scopes a → IsFirst (within_conditions roles own scopes) a
  holds_all none a e =
      inr (λ o p. few p.0, inr (λ o p. no (sym none ∙ ap (λ (s : List (List ℕ)). missing s (all_scopes scopes)) (sym (one p.0 p.2)) ∙ p.3.0), inl e))
    where
      no : {x : Expression} → None ≡ Some x → ⊥
      no e = cc

-- ---- the seconds of a ts

pub seconds_more : (ts : List ℕ) (i : ℕ) → i < length ts → seconds_of (take (i + 1) ts) ≡ seconds_of (take i ts) * 10 + (get_or ts i 0 - 48)
seconds_more ts i lt =
    ap seconds_of (take_more ts i 0 lt)
    ∙ ap (number_from_digits 10) (map_push (λ (b : ℕ). b - 48) (take i ts) (get_or ts i 0))
    ∙ number_push 10 (map (λ b. b - 48) (take i ts)) (get_or ts i 0 - 48)

pub power : (i : ℕ) → i ≤ 11 → 10 ^ i ≤ 10 ^ 11
power i h = pow-le-pow_right (lit< tt) h
