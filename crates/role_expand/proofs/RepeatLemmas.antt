-- A map from ids to places.
use Rattle.std.proofs.Common.{String, ◌≡◌, ◌≢◌, ℕ, ◌+◌, ◌<◌, ◌⊎◌, inl, inr, Bool, true, false, cond, List, Some, None, Option, refl, sym, ap, ◌∙◌, subst, arith, ◌≤◌, length, take, get_or, length-take-le}
use Rattle.std.proofs.lemmas.Bool.{true≢false, cases_lt}
use Rattle.std.proofs.lemmas.Slice.Eq.{bytes_eq-Decides}
use Rattle.std.specs.BTreeMap.{BTreeMap, get_by_text}
use Rattle.std.proofs.lemmas.List.{get_or-take}
use Rattle.std.proofs.lemmas.Option.{slice_get-get_or}
use Rattle.std.specs.List.{All, slice_get}
use Rattle.std.specs.Option.{MatchOption}
use Rattle.std.specs.Str.{bytes_eq}
use Rattle.role_expand.specs.Roles.{RoleData}

-- what a look-up of an id among the roles before a place answers
abbrev pub IsPlaceOf : List RoleData → ℕ → List ℕ → Option ℕ → Type 0
IsPlaceOf roles n id found = MatchOption found
    ((k : ℕ) (role : RoleData) → k < n → slice_get roles k ≡ Some role → role.id ≢ id)
    (λ k. (k < n) × ((role : RoleData) × (slice_get roles k ≡ Some role) × (role.id ≡ id)))

-- the map answers so for each id
abbrev pub HasPlaces : {Y : Type 0} → List RoleData → BTreeMap (String Y) ℕ → ℕ → Type 0
HasPlaces roles ids n = (id : List ℕ) → IsPlaceOf roles n id (get_by_text ids id)

either : (b : Bool) → (b ≡ true) ⊎ (b ≡ false)
either true = inl refl
either false = inr refl

module _ (roles : List RoleData) (n : ℕ) (role : RoleData) (at : slice_get roles n ≡ Some role) (id : List ℕ) where
  later_place : (found : Option ℕ) → (role.id ≡ id → ⊥) → IsPlaceOf roles n id found → IsPlaceOf roles (n + 1) id found
  later_place None other h = λ k r lt here same. (elim (cases_lt k n) [
    | inl low ↦ h k r low here same
    | inr high ↦ let e : k ≡ n = omega arith in other (ap (λ (x : RoleData). x.id) (same_some (sym at ∙ ap (λ (i : ℕ). slice_get roles i) (sym e) ∙ here)) ∙ same)
  ])
    where
      same_some : {r s : RoleData} → Some r ≡ Some s → r ≡ s
      same_some e = cc
  later_place (Some k) other h = (omega (arith, h.0), h.1)

  pub place_more : (old new : Option ℕ) → new ≡ cond (bytes_eq role.id id) (Some n) old → IsPlaceOf roles n id old → IsPlaceOf roles (n + 1) id new
  place_more old new e h =
      elim (either (bytes_eq role.id id)) [
        | inl same ↦ subst (IsPlaceOf roles (n + 1) id) (sym (e ∙ ap (λ (b : Bool). cond b (Some n) old) same)) (omega arith, (role, at, (bytes_eq-Decides role.id id).0 same))
        | inr other ↦ subst (IsPlaceOf roles (n + 1) id) (sym (e ∙ ap (λ (b : Bool). cond b (Some n) old) other))
            (later_place old (λ s. true≢false (sym ((bytes_eq-Decides role.id id).1 s) ∙ other)) h)
      ]

-- none of the roles before a place has this id
pub all_apart : (roles : List RoleData) (n : ℕ) (id : List ℕ) → n ≤ length roles → ((k : ℕ) (role : RoleData) → k < n → slice_get roles k ≡ Some role → role.id ≢ id)
    → All (λ role. role.id ≢ id) (take n roles)
all_apart roles n id fits none k d lt e =
    let low : k < n = omega (arith, lt, length-take-le n roles fits) in
    none k (get_or roles k d) low (slice_get-get_or roles k d (omega arith)) (ap (λ (r : RoleData). r.id) (sym (get_or-take n roles k d low)) ∙ e)
