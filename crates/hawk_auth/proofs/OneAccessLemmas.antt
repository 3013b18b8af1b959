-- A caller has one access.
use Rattle.std.proofs.Common.{◌≡◌, ◌≢◌, ◌⊎◌, inl, inr, ℕ, List, [], ◌∷◌, refl, sym, ap, ◌∙◌, subst}
use Rattle.std.specs.Prelude.{All, Contains, Option, Some, None, Ok, Err}
use Rattle.std.proofs.lemmas.List.Elements.{All-contains}
use Rattle.scope_sets.specs.Expressions.{Expression, missing}
use Rattle.role_expand.specs.Roles.{RoleData}
use Rattle.role_expand.specs.Closures.{IsClosure, HasMoreDerivable}
use Rattle.farm_text.specs.Document.{Document, data_of}
use Rattle.farm_text.specs.Reading.{IsJson}
use Rattle.hawk_auth.specs.Header.{HeaderData, IsHeader}
use Rattle.hawk_auth.specs.Clients.{ClientData, IsBook, IsClientOf}
use Rattle.hawk_auth.specs.Access.{Access, Refusal, Oversteps, UnknownClient, DoesOverstep, Expands, HasAccess, HasAccessBy, HasSignedAccess, HasStart, HasTooMany, HeadData, IsFirst, Limits, Refused, all_scopes, anonymous_scopes, conditions, own_scopes, start_list}
use Rattle.hawk_auth.proofs.AccessLemmas.{limits_once}
use Rattle.hawk_auth.proofs.LawLemmas.{header_once, client_once}

-- such a condition gives one access at most
abbrev IsOne : (Access → Type 0) → Type 0
IsOne P = (a b : Access) → P a → P b → a ≡ b

abbrev AreOne : List (Access → Type 0) → Type 0
AreOne [] = Unit {0}
AreOne (P ∷ Ps) = IsOne P × AreOne Ps

first_once : (Ps : List (Access → Type 0)) → AreOne Ps → IsOne (IsFirst Ps)
first_once [] one a b h k = absurd h
first_once (P ∷ Ps) one a b (inl h) (inl k) = one.0 a b h k
first_once (P ∷ Ps) one a b (inl h) (inr k) = absurd (k.0 a h)
first_once (P ∷ Ps) one a b (inr h) (inl k) = absurd (h.0 b k)
first_once (P ∷ Ps) one a b (inr h) (inr k) = first_once Ps one.1 a b h.1 k.1

refused_once : (condition : Type 0) (refusal : Refusal) → IsOne (Refused condition refusal)
refused_once condition refusal a b h k = h.1 ∙ sym k.1

module _ (json : (bytes : List ℕ) (a b : Document) → IsJson bytes (data_of a) → IsJson bytes (data_of b) → a ≡ b)
    (closure : (most : ℕ) (roles : List RoleData) (start set other : List (List ℕ)) → IsClosure most roles start set → IsClosure most roles start other → set ≡ other)
    (few : (most : ℕ) (roles : List RoleData) (start set : List (List ℕ)) → IsClosure most roles start set → ¬ HasMoreDerivable most roles start)
    (roles : List RoleData) where
  expands_once : (start : List (List ℕ)) → IsOne (Expands roles start)
  expands_once start (Ok s) (Ok t) h k = ap (λ (x : List (List ℕ)). Ok x) (closure 10_000 roles start s t h k)
  expands_once start (Ok s) (Err f) h k = absurd (few 10_000 roles start s h k.0)
  expands_once start (Err f) (Ok t) h k = absurd (few 10_000 roles start t k h.0)
  expands_once start (Err f) (Err g) h k = ap (λ (x : Refusal). Err x) (h.1 ∙ sym k.1)

  module _ (h : HeaderData) (c : ClientData) where
    some_same : {s t : List (List ℕ)} → Some s ≡ Some t → s ≡ t
    some_same e = cc

    lack_same : {x y : Expression} → Some x ≡ Some y → x ≡ y
    lack_same e = cc

    many_once : IsOne (HasTooMany roles h c)
    many_once a b p q = p.2.1 ∙ sym q.2.1

    oversteps_once : IsOne (DoesOverstep roles h c)
    oversteps_once a b (s, set, x, limits, closed, lack) (t, other, y, limits', closed', lack') =
        let scopes : s ≡ t = some_same (limits_once json h.ext (Some s) (Some t) limits limits') in
        let sets : set ≡ other = closure 10_000 roles (own_scopes c) set other closed closed' in
        let e = sym lack.0 ∙ ap (λ (z : List (List ℕ)). missing z (all_scopes s)) sets ∙ ap (λ (z : List (List ℕ)). missing other (all_scopes z)) scopes ∙ lack'.0 in
        lack.1 ∙ ap (λ (z : Expression). Err (Oversteps z)) (lack_same e) ∙ sym lack'.1

    start_once : IsOne (HasStart roles h c)
    start_once a b (s, limits, e) (t, limits', f) =
        let allowed : t ≡ s = limits_once json h.ext t s limits' limits in
        expands_once (start_list c s) a b e (subst (λ (z : Option (List (List ℕ))). Expands roles (start_list c z) b) allowed f)

    conditions_once : (head : HeadData) (now : ℕ) → IsOne (IsFirst (conditions roles head now h c))
    conditions_once head now =
        first_once (conditions roles head now h c) (
          refused_once _ _,
          (
            refused_once _ _,
            (
              refused_once _ _,
              (
                refused_once _ _,
                (
                  refused_once _ _,
                  (refused_once _ _, (many_once, (oversteps_once, (start_once, tt)))),
                ),
              ),
            ),
          ),
        )

  module _ (clients : List ClientData) (head : HeadData) (now : ℕ) (book : IsBook clients) where
    known : (h : HeaderData) (c : ClientData) → IsClientOf clients h.id c → All (λ d. d.id ≢ h.id) clients → ⊥
    known h c is none = All-contains (λ d. d.id ≢ h.id) clients c none is.0 is.1

    abbrev Rest : HeaderData → Access → Type 0
    Rest h a = Refused (All (λ d. d.id ≢ h.id) clients) UnknownClient a ⊎ ((c : ClientData) × IsClientOf clients h.id c × IsFirst (conditions roles head now h c) a)

    rest_once : (h : HeaderData) → IsOne (Rest h)
    rest_once h a b (inl p) (inl q) = p.1 ∙ sym q.1
    rest_once h a b (inl p) (inr (c, is, q)) = absurd (known h c is p.0)
    rest_once h a b (inr (c, is, p)) (inl q) = absurd (known h c is q.0)
    rest_once h a b (inr (c, is, p)) (inr (d, other, q)) =
        let same : d ≡ c = client_once clients h.id d c book other is in
        conditions_once h c head now a b p (subst (λ (x : ClientData). IsFirst (conditions roles head now h x) b) same q)

    signed_once : (value : List ℕ) → IsOne (HasSignedAccess clients roles head now value)
    signed_once value a b (inl p) (inl q) = p.1 ∙ sym q.1
    signed_once value a b (inl (inl p, e)) (inr (count, (h, is, q))) = absurd (p count)
    signed_once value a b (inl (inr p, e)) (inr (count, (h, is, q))) = absurd (p h is)
    signed_once value a b (inr (count, (h, is, p))) (inl (inl q, e)) = absurd (q count)
    signed_once value a b (inr (count, (h, is, p))) (inl (inr q, e)) = absurd (q h is)
    signed_once value a b (inr (count, (h, is, p))) (inr (again, (k, other, q))) =
        rest_once h a b p (subst (λ (x : HeaderData). Rest x b) (header_once value k h other is) q)

    by_header : (header : Option (List ℕ)) → IsOne (HasAccessBy clients roles head now header)
    by_header None = expands_once anonymous_scopes
    by_header (Some value) = signed_once value

    pub access_once : IsOne (HasAccess clients roles head now)
    access_once = by_header head.header
