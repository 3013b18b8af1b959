-- What the parts of `add_given` add is what the role gives.
use Rattle.std.proofs.Common.{◌≡◌, ℕ, ◌⊎◌, inl, inr, List, [], ◌∷◌, ◌++◌, refl, sym, ap, ◌∙◌, subst, Result, MatchResult, get_or, ◌↔◌, Bool, true, false}
use Rattle.std.proofs.lemmas.List.{append_cancel_right}
use Rattle.std.proofs.lemmas.List.Elements.{All-contains, Contains-get_or}
use Rattle.std.proofs.lemmas.Result.{MatchResult-weaker}
use Rattle.std.proofs.lemmas.List.Folds.{list_any_at}
use Rattle.std.proofs.lemmas.Map.Views.{Contains-from_any}
use Rattle.std.proofs.lemmas.Slice.Eq.{bytes_eq-Decides}
use Rattle.std.specs.List.{All, Contains, list_any}
use Rattle.std.specs.Str.{bytes_eq}
use Rattle.scope_sets.specs.Scopes.{star, Satisfies}
use Rattle.role_expand.specs.Roles.{RoleData, assume, EndsWithStar, Gives}
use Rattle.role_expand.specs.Growth.{Gains, FailsToGain, IsGrantedAsWritten, IsGrantedByFront, IsGrantedWithStar}
use Rattle.role_expand.specs.declared.expansion.ExpandFault.{ExpandFault}
use Rattle.role_expand.proofs.GrowthLemmas.{gains_same, fails_wider, gains_more, fails_after}

-- lists are tested alike where they have the same texts, and the other way round
same_bool : (a b : Bool) → (a ≡ true → b ≡ true) → (b ≡ true → a ≡ true) → a ≡ b
same_bool true true f g = refl
same_bool true false f g = sym (f refl)
same_bool false true f g = g refl
same_bool false false f g = refl

pub any_listed : (xs : List (List ℕ)) (s : List ℕ) → Contains xs s → list_any (bytes_eq s) xs ≡ true
any_listed xs s h = list_any_at (bytes_eq s) xs h.0 s h.1 ((bytes_eq-Decides s (get_or xs h.0 s)).1 (sym h.2))

pub listed_any : (xs : List (List ℕ)) (s : List ℕ) → list_any (bytes_eq s) xs ≡ true → Contains xs s
listed_any xs s t = Contains-from_any (λ x y e. (bytes_eq-Decides x y).0 e) s xs t

pub same_listed : (xs ys : List (List ℕ)) → ((s : List ℕ) → list_any (bytes_eq s) xs ≡ list_any (bytes_eq s) ys) → (s : List ℕ) → Contains xs s ↔ Contains ys s
same_listed xs ys same s = (λ h. listed_any ys s (sym (same s) ∙ any_listed xs s h), λ h. listed_any xs s (same s ∙ any_listed ys s h))

pub same_tests : (xs ys : List (List ℕ)) → ((s : List ℕ) → Contains xs s → Contains ys s) → ((s : List ℕ) → Contains ys s → Contains xs s)
    → (s : List ℕ) → list_any (bytes_eq s) xs ≡ list_any (bytes_eq s) ys
same_tests xs ys to from s =
    same_bool (list_any (bytes_eq s) xs) (list_any (bytes_eq s) ys) (λ t. any_listed ys s (to s (listed_any xs s t))) (λ t. any_listed xs s (from s (listed_any ys s t)))

pub result_same : {T : Type 0} (most : ℕ) (r : Result T ExpandFault) (P R : List ℕ → Type 0) (old new : List (List ℕ))
    → MatchResult r (λ _. Gains most P old new) (FailsToGain most P old) → ((s : List ℕ) → P s → R s) → ((s : List ℕ) → R s → P s)
    → MatchResult r (λ _. Gains most R old new) (FailsToGain most R old)
result_same most r P R old new h to from = MatchResult-weaker r h (λ _ g. gains_same most P R old new g to from) (λ fault k. fails_wider most P R old fault k to)

-- after a step that succeeded
pub result_more : {T : Type 0} (most : ℕ) (r : Result T ExpandFault) (P Q R : List ℕ → Type 0) (old mid new : List (List ℕ)) → Gains most P old mid
    → MatchResult r (λ _. Gains most Q mid new) (FailsToGain most Q mid) → ((s : List ℕ) → P s → R s) → ((s : List ℕ) → Q s → R s) → ((s : List ℕ) → R s → P s ⊎ Q s)
    → MatchResult r (λ _. Gains most R old new) (FailsToGain most R old)
result_more most r P Q R old mid new g h from_p from_q cases =
    MatchResult-weaker r h (λ _ k. gains_more most P Q R old mid new g k from_p from_q cases) (λ fault k. fails_after most P Q R old mid fault g k from_p from_q)

module _ (role : RoleData) (scopes : List (List ℕ)) (same : (s : List ℕ) → Contains scopes s ↔ Contains role.scopes s) (held grant : List ℕ) (granted_by : grant ≡ assume ++ role.id) where
  pub forms_of_same : (P : List ℕ → Type 0) → All P role.scopes → All P scopes
  forms_of_same P all i d lt = All-contains P role.scopes (get_or scopes i d) all ((same (get_or scopes i d)).0 (Contains-get_or scopes i d lt))

  module _ (plain : (front : List ℕ) → role.id ≡ front ++ star ∷ [] → ⊥) where
    pub Gives-from_written : (s : List ℕ) → IsGrantedAsWritten held grant scopes s → Gives role held s
    Gives-from_written s h = inl record {
      plain = λ k. plain k.0 k.1;
      granted = subst (λ (t : List ℕ). Satisfies held t) granted_by h.0;
      listed = (same s).0 h.1;
    }

    pub written_from_Gives : (s : List ℕ) → Gives role held s → IsGrantedAsWritten held grant scopes s
    written_from_Gives s (inl g) = (subst (λ (t : List ℕ). Satisfies held t) (sym granted_by) g.granted, (same s).1 g.listed)
    written_from_Gives s (inr g) = absurd (plain g.front g.id_is)

  module _ (front : List ℕ) (id_is : role.id ≡ front ++ star ∷ []) where
    grant_is : grant ≡ assume ++ (front ++ star ∷ [])
    grant_is = granted_by ∙ ap (λ (t : List ℕ). assume ++ t) id_is

    pub Gives-from_front : (s : List ℕ) → IsGrantedByFront held front scopes s → Gives role held s
    Gives-from_front s h = inr record {
      front = front;
      id_is = id_is;
      parameter = h.0;
      granted = inl h.1;
      scope = h.2.0;
      listed = (same h.2.0).0 h.2.1;
      filled = h.2.2;
    }

    pub Gives-from_star : (s : List ℕ) → IsGrantedWithStar held grant scopes s → Gives role held s
    Gives-from_star s h = inr record {
      front = front;
      id_is = id_is;
      parameter = star ∷ [];
      granted = inr (subst (λ (t : List ℕ). Satisfies held t) grant_is h.0, refl);
      scope = h.1.0;
      listed = (same h.1.0).0 h.1.1;
      filled = h.1.2;
    }

    pub parts_from_Gives : (s : List ℕ) → Gives role held s → IsGrantedByFront held front scopes s ⊎ IsGrantedWithStar held grant scopes s
    parts_from_Gives s (inl g) = absurd (g.plain (front, id_is))
    parts_from_Gives s (inr g) =
        let front_is : g.front ≡ front = append_cancel_right g.front front (star ∷ []) (sym g.id_is ∙ id_is) in
        elim g.granted [
          | inl e ↦ inl (g.parameter, e ∙ ap (λ (t : List ℕ). assume ++ (t ++ g.parameter)) front_is, (g.scope, (same g.scope).1 g.listed, g.filled))
          | inr k ↦ inr (
            subst (λ (t : List ℕ). Satisfies held t) (ap (λ (t : List ℕ). assume ++ (t ++ star ∷ [])) front_is ∙ sym grant_is) k.0,
            (g.scope, (same g.scope).1 g.listed, subst (λ (t : List ℕ). Rattle.role_expand.specs.Roles.FillsHole t g.scope s) k.1 g.filled),
          )
        ]
