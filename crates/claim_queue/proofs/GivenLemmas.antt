-- How many rows were given in a walk: the places that it looks below, each once.
use Rattle.std.proofs.Common.{◌≡◌, ◌≢◌, ℕ, zero, suc, ◌+◌, ◌*◌, ◌<◌, ◌≤◌, ◌⊎◌, inl, inr, Bool, true, false, cond, List, [], ◌∷◌, ◌++◌, length, Option, Some, None, refl, sym, ap, ◌∙◌, subst, slice_get, slice_set, arith}
use Rattle.std.specs.List.{count_by}
use Rattle.std.proofs.lemmas.List.Sums.{sum_by-set, sum_by-cons}
use Rattle.claim_queue.specs.declared.turns.Turn.{Turn}
use Rattle.claim_queue.specs.Waits.{Waiting, waits_in}
use Rattle.claim_queue.specs.Heaps.{turn_at, IsBelow}
use Rattle.claim_queue.specs.Behind.{is_behind, IsUnder, IsAmong, AreApart, AreGivenUnder}
use Rattle.claim_queue.proofs.HeldLemmas.{within-held, index-held}
use Rattle.claim_queue.proofs.HeapLemmas.{same?}
use Rattle.claim_queue.proofs.TableLemmas.{get-set-other}
use Rattle.claim_queue.proofs.BehindLemmas.{under-ge}

-- ---- no place is below both of two that stand side by side

-- the same from below: a place is below another by way of its parent
abbrev IsOver : ℕ → ℕ → ℕ → Type 0
IsOver zero top place = place ≡ top
IsOver (suc levels) top place = (parent : ℕ) × IsBelow parent place × IsOver levels top parent

over-more : (levels top child place : ℕ) → IsBelow top child → IsOver levels child place → IsOver (suc levels) top place
over-more zero top child place below over = (top, subst (λ c. IsBelow top c) (sym over) below, refl)
over-more (suc levels) top child place below over = (over.0, over.1, over-more levels top child over.0 below over.2)

under-over : (levels top place : ℕ) → IsUnder levels top place → IsOver levels top place
under-over zero top place under = under
under-over (suc levels) top place under = over-more levels top under.0 place under.1 (under-over levels under.0 place under.2)

over-ge : (levels top place : ℕ) → IsOver levels top place → top ≤ place
over-ge zero top place over = omega arith
over-ge (suc levels) top place over =
    let more = over-ge levels top over.0 over.2 in
    let low = over.1.0 in
    omega arith

-- of two that a place is below, one is below the other
over-both : (m n one other place : ℕ) → IsOver m one place → IsOver n other place → ((k : ℕ) × IsOver k one other) ⊎ ((k : ℕ) × IsOver k other one)
over-both zero n one other place p q = inr (n, subst (λ x. IsOver n other x) p q)
over-both (suc m) zero one other place p q = inl (suc m, subst (λ x. IsOver (suc m) one x) q p)
over-both (suc m) (suc n) one other place p q =
    let a = p.1.0 in
    let b = p.1.1 in
    let c = q.1.0 in
    let d = q.1.1 in
    let same : p.0 ≡ q.0 = omega arith in
    over-both m n one other q.0 (subst (λ x. IsOver m one x) same p.2) q.2

beside : (top left right : ℕ) → left ≡ 2 * top + 1 → right ≡ 2 * top + 2 → (k : ℕ) → IsOver k left right → ⊥
beside top left right p q zero over = absurd (omega arith)
beside top left right p q (suc k) over =
    let more = over-ge k left over.0 over.2 in
    let a = over.1.0 in
    omega arith

not-both-under : (top left right place m n : ℕ) → left ≡ 2 * top + 1 → right ≡ 2 * top + 2 → IsUnder m left place → IsUnder n right place → ⊥
not-both-under top left right place m n p q l r =
    elim (over-both m n left right place (under-over m left place l) (under-over n right place r)) [
      | inl w ↦ beside top left right p q w.0 w.1
      | inr w ↦ let le = over-ge w.0 right left w.1 in omega arith
    ]

-- ---- the places of two parts

among-either : (place : ℕ) (xs ys : List ℕ) → IsAmong place (xs ++ ys) → IsAmong place xs ⊎ IsAmong place ys
among-either place [] ys among = inr among
among-either place (x ∷ xs) ys (inl is) = inl (inl is)
among-either place (x ∷ xs) ys (inr among) = elim (among-either place xs ys among) [ inl w ↦ inl (inr w) | inr w ↦ inr w ]

apart-both : (xs ys : List ℕ) → AreApart xs → AreApart ys → ((place : ℕ) → IsAmong place xs → IsAmong place ys → ⊥) → AreApart (xs ++ ys)
apart-both [] ys p q never = q
apart-both (x ∷ xs) ys p q never = (
  λ among. elim (among-either x xs ys among) [ inl w ↦ p.0 w | inr w ↦ never x (inl refl) w ],
  apart-both xs ys p.1 q (λ place in_. never place (inr in_)),
)

module _ (heap : List Turn) (top left right : ℕ) (last : Option Turn) (left_is : left ≡ 2 * top + 1) (right_is : right ≡ 2 * top + 2) where
  pub given-none : AreGivenUnder top heap last []
  given-none = record { each = λ place among. absurd among; apart = tt }

  pub given-more : (xs ys : List ℕ) → top < length heap → is_behind last (turn_at heap top) ≡ false → AreGivenUnder left heap last xs → AreGivenUnder right heap last ys → AreGivenUnder top heap last (top ∷ (xs ++ ys))
  given-more xs ys lt given p q = record { each = each; apart = (first, apart-both xs ys p.apart q.apart never) } where
    each : (place : ℕ) → IsAmong place (top ∷ (xs ++ ys)) → (levels : ℕ) × IsUnder levels top place × (place < length heap) × (is_behind last (turn_at heap place) ≡ false)
    each place (inl is) = (0, is, subst (λ n. n < length heap) (sym is) lt, ap (λ n. is_behind last (turn_at heap n)) is ∙ given)
    each place (inr among) = elim (among-either place xs ys among) [
      | inl w ↦ let e = p.each place w in (suc e.0, (left, (omega arith, omega arith), e.1), e.2, e.3)
      | inr w ↦ let e = q.each place w in (suc e.0, (right, (omega arith, omega arith), e.1), e.2, e.3)
    ]

    first : IsAmong top (xs ++ ys) → ⊥
    first among = elim (among-either top xs ys among) [
      | inl w ↦ let e = p.each top w in let le = under-ge e.0 left top e.1 in omega arith
      | inr w ↦ let e = q.each top w in let le = under-ge e.0 right top e.1 in omega arith
    ]

    never : (place : ℕ) → IsAmong place xs → IsAmong place ys → ⊥
    never place l r =
        let a = p.each place l in
        let b = q.each place r in
        not-both-under top left right place a.0 b.0 left_is right_is a.1 b.1

-- how many they are
pub length-both : (xs ys : List ℕ) → length (xs ++ ys) ≡ length xs + length ys
length-both [] ys = omega arith
length-both (x ∷ xs) ys = let more = length-both xs ys in omega arith

-- ---- rows that wait no longer

module _ (name : List ℕ) (after : List (Option Waiting)) where
  -- who waits after waited before
  abbrev AreFewer : List (Option Waiting) → List (Option Waiting) → Type 0
  AreFewer later before = (k : ℕ) (x : Option Waiting) → slice_get later k ≡ Some x → waits_in name x ≡ true → (y : Option Waiting) × (slice_get before k ≡ Some y) × (waits_in name y ≡ true)

  one-if : (b c : Bool) → (b ≡ true → c ≡ true) → cond b 1 0 ≤ cond c 1 0
  one-if true c more = rw (more refl) (omega arith)
  one-if false c more = omega arith

  fewer : (later before : List (Option Waiting)) → AreFewer later before → count_by (waits_in name) later ≤ count_by (waits_in name) before
  fewer [] before p = omega arith
  fewer (x ∷ later) [] p =
      let rest = fewer later [] (λ k y is here. p (suc k) y is here) in
      let count : count_by (waits_in name) (x ∷ later) ≡ cond (waits_in name x) 1 0 + count_by (waits_in name) later = sum_by-cons (λ (o : Option Waiting). cond (waits_in name o) 1 0) x later in
      let none : cond (waits_in name x) 1 0 ≤ cond false 1 0 = one-if (waits_in name x) false (λ is. let w = p 0 x refl is in let e = w.1 in absurd (cc)) in
      omega arith
  fewer (x ∷ later) (y ∷ before) p =
      let rest = fewer later before (λ k z is here. p (suc k) z is here) in
      let count : count_by (waits_in name) (x ∷ later) ≡ cond (waits_in name x) 1 0 + count_by (waits_in name) later = sum_by-cons (λ (o : Option Waiting). cond (waits_in name o) 1 0) x later in
      let count_y : count_by (waits_in name) (y ∷ before) ≡ cond (waits_in name y) 1 0 + count_by (waits_in name) before = sum_by-cons (λ (o : Option Waiting). cond (waits_in name o) 1 0) y before in
      let head : cond (waits_in name x) 1 0 ≤ cond (waits_in name y) 1 0 =
      one-if (waits_in name x) (waits_in name y) (λ is. let w = p 0 x refl is in let e : y ≡ w.0 = (let g = w.1 in cc) in ap (waits_in name) e ∙ w.2) in
      omega arith

  -- places of which each is that of a row of its own, which waited before and does not after, are at most as many as those that wait no longer
  pub fewer-by : (row : ℕ → ℕ) (places : List ℕ) (before : List (Option Waiting)) → AreApart places
      → ((one other : ℕ) → IsAmong one places → IsAmong other places → row one ≡ row other → one ≡ other)
      → ((place : ℕ) → IsAmong place places → (x : Option Waiting) × (slice_get before (row place) ≡ Some x) × (waits_in name x ≡ true))
      → ((place : ℕ) → IsAmong place places → (x : Option Waiting) → slice_get after (row place) ≡ Some x → waits_in name x ≡ false)
      → AreFewer after before → length places + count_by (waits_in name) after ≤ count_by (waits_in name) before
  fewer-by row [] before apart own was gone p = let le = fewer after before p in omega arith
  fewer-by row (place ∷ places) before apart own was gone p =
      let here = was place (inl refl) in
      let lt : row place < length before = within-held before (row place) here.0 here.1 in
      let set : count_by (waits_in name) (slice_set before (row place) None) + cond (waits_in name here.0) 1 0 ≡ count_by (waits_in name) before + 0 =
      subst (λ (o : Option Waiting). count_by (waits_in name) (slice_set before (row place) None) + cond (waits_in name o) 1 0 ≡ count_by (waits_in name) before + 0) (index-held before (row place) here.0 None here.1)
      (sum_by-set (λ (o : Option Waiting). cond (waits_in name o) 1 0) before (row place) None None lt) in
      let one : ◌≡◌ {A = ℕ} (cond (waits_in name here.0) 1 0) 1 = ap (λ b. cond b 1 0) here.2 in
      let other : (k : ℕ) → IsAmong k places → row k ≢ row place =
      λ k among same. apart.0 (subst (λ n. IsAmong n places) (own k place (inr among) (inl refl) same) among) in
      let rest = fewer-by row places (slice_set before (row place) None) apart.1
      (λ a b in_a in_b. own a b (inr in_a) (inr in_b))
      (λ k among. let w = was k (inr among) in (w.0, get-set-other before (row place) (row k) None (other k among) ∙ w.1, w.2))
      (λ k among. gone k (inr among))
      (λ k x is waits. by k x is waits (same? k (row place))) in
      omega arith
    where
      by : (k : ℕ) (x : Option Waiting) → slice_get after k ≡ Some x → waits_in name x ≡ true → (k ≡ row place) ⊎ (k ≢ row place) → (y : Option Waiting) × (slice_get (slice_set before (row place) None) k ≡ Some y) × (waits_in name y ≡ true)
      by k x is waits (inl same) =
          let no_ : waits_in name x ≡ false = gone place (inl refl) x (subst (λ n. slice_get after n ≡ Some x) same is) in
          let both : true ≡ false = sym waits ∙ no_ in
          absurd (cc)
      by k x is waits (inr ne) = let w = p k x is waits in (w.0, get-set-other before (row place) k None ne ∙ w.1, w.2)
