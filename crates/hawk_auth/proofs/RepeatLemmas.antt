-- A map from ids to places.
use Rattle.std.proofs.Common.{◌≡◌, ◌≢◌, ℕ, ◌+◌, ◌<◌, ◌⊎◌, inl, inr, Bool, true, false, cond, List, Some, None, Option, refl, sym, ap, ◌∙◌, subst, arith, ◌≤◌, length, take, get_or, length-take-le}
use Rattle.std.proofs.lemmas.Bool.{true≢false, cases_lt}
use Rattle.std.proofs.lemmas.Slice.Eq.{bytes_eq-Decides}
use Rattle.std.proofs.lemmas.List.{get_or-take}
use Rattle.std.proofs.lemmas.Option.{slice_get-get_or}
use Rattle.std.specs.List.{All, slice_get}
use Rattle.std.specs.Str.{bytes_eq}
use Rattle.hawk_auth.specs.Clients.{ClientData}
use Rattle.hawk_auth.specs.Places.{IsPlaceOf}

either : (b : Bool) → (b ≡ true) ⊎ (b ≡ false)
either true = inl refl
either false = inr refl

module _ (clients : List ClientData) (n : ℕ) (client : ClientData) (at : slice_get clients n ≡ Some client) (id : List ℕ) where
  later_place : (found : Option ℕ) → (client.id ≡ id → ⊥) → IsPlaceOf clients n id found → IsPlaceOf clients (n + 1) id found
  later_place None other h = λ k r lt here same. (elim (cases_lt k n) [
    | inl low ↦ h k r low here same
    | inr high ↦ let e : k ≡ n = omega arith in other (ap (λ (x : ClientData). x.id) (same_some (sym at ∙ ap (λ (i : ℕ). slice_get clients i) (sym e) ∙ here)) ∙ same)
  ])
    where
      same_some : {r s : ClientData} → Some r ≡ Some s → r ≡ s
      same_some e = cc
  later_place (Some k) other h = (omega (arith, h.0), h.1)

  pub place_more : (old new : Option ℕ) → new ≡ cond (bytes_eq client.id id) (Some n) old → IsPlaceOf clients n id old → IsPlaceOf clients (n + 1) id new
  place_more old new e h =
      elim (either (bytes_eq client.id id)) [
        | inl same ↦ subst (IsPlaceOf clients (n + 1) id) (sym (e ∙ ap (λ (b : Bool). cond b (Some n) old) same)) (omega arith, (client, at, (bytes_eq-Decides client.id id).0 same))
        | inr other ↦ subst (IsPlaceOf clients (n + 1) id) (sym (e ∙ ap (λ (b : Bool). cond b (Some n) old) other))
            (later_place old (λ s. true≢false (sym ((bytes_eq-Decides client.id id).1 s) ∙ other)) h)
      ]

-- none of the clients before a place has this id
pub all_apart : (clients : List ClientData) (n : ℕ) (id : List ℕ) → n ≤ length clients → ((k : ℕ) (client : ClientData) → k < n → slice_get clients k ≡ Some client → client.id ≢ id)
    → All (λ client. client.id ≢ id) (take n clients)
all_apart clients n id fits none k d lt e =
    let low : k < n = omega (arith, lt, length-take-le n clients fits) in
    none k (get_or clients k d) low (slice_get-get_or clients k d (omega arith)) (ap (λ (r : ClientData). r.id) (sym (get_or-take n clients k d low)) ∙ e)
