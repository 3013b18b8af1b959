-- That a farm is damaged at one place.
use Rattle.std.proofs.Common.{◌≡◌, ◌⊎◌, ℕ, List, [], ◌∷◌, ◌++◌, length, refl, sym, ap, ◌∙◌, subst, inl, inr}
use Rattle.disk_journal.specs.Records.{records, IsDamagedBehind}
use Rattle.disk_journal.proofs.LawLemmas.{opens_one, opens_whole, damaged_one, behind_one}
use Rattle.task_index.specs.Contents.{Contents}
use Rattle.farm_core.specs.Opened.{Replays, IsBroken, HasBodies, IsFarmDamaged}
use Rattle.farm_core.proofs.OpenLemmas.{OneChange, unbroken}

-- of two places in one list, the one is the other, or before it, or behind it
fronts : (p r : List (List ℕ)) (x y : List ℕ) (q s : List (List ℕ)) → p ++ x ∷ q ≡ r ++ y ∷ s
    → (p ≡ r) ⊎ ((t : List (List ℕ)) × (r ≡ p ++ x ∷ t)) ⊎ ((t : List (List ℕ)) × (p ≡ r ++ y ∷ t))
fronts [] [] x y q s same = inl refl
fronts [] (b ∷ r) x y q s same = let first : x ≡ b = cc in inr (inl (r, ap (λ (h : List ℕ). h ∷ r) (sym first)))
fronts (a ∷ p) [] x y q s same = let first : y ≡ a = cc in inr (inr (p, ap (λ (h : List ℕ). h ∷ p) (sym first)))
fronts (a ∷ p) (b ∷ r) x y q s same =
    let first : a ≡ b = cc in
    let rest : p ++ x ∷ q ≡ r ++ y ∷ s = cc in
    elim (fronts p r x y q s rest) [
      | inl e ↦ inl (ap (λ (h : List ℕ). h ∷ p) first ∙ ap (λ (l : List (List ℕ)). b ∷ l) e)
      | inr (inl e) ↦ inr (inl (e.0, ap (λ (h : List ℕ). h ∷ r) (sym first) ∙ ap (λ (l : List (List ℕ)). a ∷ l) e.1))
      | inr (inr e) ↦ inr (inr (e.0, ap (λ (h : List ℕ). h ∷ p) first ∙ ap (λ (l : List (List ℕ)). b ∷ l) e.1))
    ]

-- no body is broken before one behind those that replay
not-before : OneChange → (bodies : List (List ℕ)) (place other : ℕ) (a : IsBroken bodies place) (b : IsBroken bodies other) (t : List (List ℕ)) → b.before ≡ a.before ++ a.body ∷ t → ⊥
not-before one bodies place other a b t is =
    unbroken one a.before t a.body a.contents b.contents (subst (λ (l : List (List ℕ)). Replays l b.contents) is b.replays) a.replays a.broken

broken-one : OneChange → (bodies : List (List ℕ)) (place other : ℕ) → IsBroken bodies place → IsBroken bodies other → place ≡ other
broken-one one bodies place other a b =
    elim (fronts a.before b.before a.body b.body a.after b.after (sym a.are ∙ b.are)) [
      | inl same ↦ a.at ∙ ap (λ (l : List (List ℕ)). length (records l)) same ∙ sym b.at
      | inr (inl before) ↦ absurd (not-before one bodies place other a b before.0 before.1)
      | inr (inr behind) ↦ absurd (not-before one bodies other place b a behind.0 behind.1)
    ]

-- of bodies that replay none is broken
none-broken : OneChange → (bodies : List (List ℕ)) (contents : Contents) (place : ℕ) → Replays bodies contents → IsBroken bodies place → ⊥
none-broken one bodies contents place replays b =
    unbroken one b.before b.after b.body b.contents contents (subst (λ (l : List (List ℕ)). Replays l contents) b.are replays) b.replays b.broken

-- a file has one list of bodies
bodies-one : (file : List ℕ) (bodies others : List (List ℕ)) → HasBodies file bodies → HasBodies file others → bodies ≡ others
bodies-one file bodies others (inl a) (inl b) = opens_one [] file bodies others a b
bodies-one file bodies others (inl a) (inr (at, b)) = absurd (opens_whole [] file bodies at a b.0)
bodies-one file bodies others (inr (at, a)) (inl b) = absurd (opens_whole [] file others at b a.0)
bodies-one file bodies others (inr (at, a)) (inr (other, b)) = behind_one [] file bodies others at other a b

-- no body is broken of those behind which a journal is damaged
not-both : OneChange → (file : List ℕ) (place other : ℕ) (bodies others : List (List ℕ)) (contents : Contents) → IsDamagedBehind [] file bodies place → Replays bodies contents → HasBodies file others → IsBroken others other → ⊥
not-both one file place other bodies others contents behind replays has broken =
    none-broken one bodies contents other replays (subst (λ (l : List (List ℕ)). IsBroken l other) (sym (bodies-one file bodies others (inr (place, behind)) has)) broken)

pub farm-damaged-one : OneChange → (file : List ℕ) (place other : ℕ) → IsFarmDamaged file place → IsFarmDamaged file other → place ≡ other
farm-damaged-one one file place other (inl (bodies, a, made)) (inl (others, b, left)) = damaged_one [] file place other a.0 b.0
farm-damaged-one one file place other (inl (bodies, a, (contents, replays))) (inr (others, has, b)) = absurd (not-both one file place other bodies others contents a replays has b)
farm-damaged-one one file place other (inr (bodies, has, a)) (inl (others, b, (contents, replays))) = absurd (not-both one file other place others bodies contents b replays has a)
farm-damaged-one one file place other (inr (bodies, has, a)) (inr (others, had, b)) =
    broken-one one others place other (subst (λ (l : List (List ℕ)). IsBroken l place) (bodies-one file bodies others has had) a) b
