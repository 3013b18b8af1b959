-- What is known of a desk at its end, by a caller that has all its asks and calls.
use Rattle.std.proofs.Common.{◌≡◌, ℕ, ◌+◌, ◌≤◌, ◌⊎◌, inl, inr, List, [], ◌∷◌, ◌++◌, length, refl, sym, ap, ◌∙◌, subst, ⊎_elim, arith, append_assoc, append-nil, length-append, Option, Some, None}
use Rattle.std.specs.List.Sorted.{IsPermutation}
use Rattle.std.proofs.lemmas.List.Sorted.{IsPermutation-refl, IsPermutation-sym, IsPermutation-cons, IsPermutation-middle, IsPermutation-trans}
use mathlib.Core.Option.{some, some-injective}
use mathlib.Core.Logic.{dite}
use native.Mathlib.Decide.{ℕ_discrete}
use lib.ListN.{get_elem?}
use Rattle.atomic_table.specs.Table.{State}
use Rattle.history.specs.Rules.{Rules}
use Rattle.history.specs.Histories.{IsLegal, calls_of, place_of}
use Rattle.history.specs.Asks.{AreEntries, LeadsAlone}
use Rattle.history.proofs.HistoriesLemmas.{calls_of-append}
use Rattle.shared_desk.specs.declared.view.Stage.TheVariants.{Idle}
use Rattle.shared_desk.specs.declared.view.View.{View}
use Rattle.shared_desk.specs.Views.{total}
use Rattle.shared_desk.specs.Rule.{Bears, FitsStage, IsKept}
use Rattle.shared_desk.proofs.Lists.{total-append, total_has, total_ones, at_number, at_number-same, at_number-other}

-- a number of some weight stands there
parted : (p : ℕ) (ys : List ℕ) → 1 ≤ total (at_number p) ys → (before after : List ℕ) × (ys ≡ before ++ p ∷ after)
parted p [] some_weight = absurd (omega arith)
parted p (y ∷ ys) some_weight = dite (ℕ_discrete y p)
    (λ same. ([], ys, ap (λ x. x ∷ ys) same))
    (λ other. let here = at_number-other p y other in
    let rest = parted p ys (omega arith) in
    (y ∷ rest.0, rest.1, ap (λ zs. y ∷ zs) rest.2))

-- as many numbers that weigh no more are the same ones
same_numbers : (xs ys : List ℕ) → ((f : ℕ → ℕ) → total f xs ≤ total f ys) → length ys ≡ length xs → IsPermutation xs ys
same_numbers [] [] less long = IsPermutation-refl []
same_numbers [] (y ∷ ys) less long = absurd (omega arith)
same_numbers (x ∷ xs) ys less long =
    let one = at_number-same x x refl in
    let there = less (at_number x) in
    let part = parted x ys (omega arith) in
    let before = part.0 in
    let after = part.1 in
    let is = part.2 in
    let count = ap length is in
    let sum = length-append before (x ∷ after) in
    let short = length-append before after in
    let rest = same_numbers xs (before ++ after)
    (λ f. let l = less f in let t = ap (total f) is in let a = total-append f before (x ∷ after) in let b = total-append f before after in omega arith)
    (omega arith) in
    subst (IsPermutation (x ∷ xs)) (sym is)
    (IsPermutation-trans (x ∷ xs) (x ∷ (before ++ after)) (before ++ x ∷ after) (IsPermutation-cons x xs (before ++ after) rest) (IsPermutation-sym (before ++ x ∷ after) (x ∷ (before ++ after)) (IsPermutation-middle before x after)))

-- the last of a list, or this one
abbrev last_of : {E : Type 0} → E → List E → E
last_of d [] = d
last_of d (e ∷ es) = last_of e es

last_of-append : {E : Type 0} (d e : E) (xs es : List E) → last_of d (xs ++ e ∷ es) ≡ last_of e es
last_of-append d e [] es = refl
last_of-append d e (x ∷ xs) es = last_of-append x e xs es

no_places : {Q : Type 0} (question : Option Q) (place : ℕ) (more : List ℕ) → length (place_of question place ++ more) ≡ 0 → (question ≡ None) × (length more ≡ 0)
no_places None place more none_there = (refl, none_there)
no_places (Some q) place more none_there = absurd (omega arith)

module _ {Q A S E R : Type 0} (r : Rules Q A S E R) where
  -- the last entry of a list without calls is none
  last_quiet : (place : ℕ) (e : E) (es : List E) → length (calls_of r place (e ∷ es)) ≡ 0 → r.asked (last_of e es) ≡ None
  last_quiet place e [] quiet = (no_places (r.asked e) place [] quiet).0
  last_quiet place e (next ∷ es) quiet = last_quiet (place + 1) next es (no_places (r.asked e) place (calls_of r (place + 1) (next ∷ es)) quiet).1

  -- what asks made in turn is empty or ends with a call
  ends_with_call : (from : S) (asks : List (Q × A)) (made : List E) → AreEntries r from asks made → (made ≡ []) ⊎ ((before : List E) × (call : E) × (question : Q) × (made ≡ before ++ call ∷ []) × (r.asked call ≡ Some question))
  ends_with_call from [] made are = inl are
  ends_with_call from (ask ∷ asks) made are =
      let call = are.0 in
      let ticks = r.ticks from ask.0 ask.1 in
      ⊎_elim
      (λ none_left. inr (ticks, call, ask.0, are.4 ∙ (ap (λ es. (ticks ++ call ∷ []) ++ es) none_left ∙ append-nil (ticks ++ call ∷ [])), are.3.asked))
      (λ more. inr ((ticks ++ call ∷ []) ++ more.0, more.1, more.2, are.4 ∙ (ap (λ es. (ticks ++ call ∷ []) ++ es) more.3 ∙ sym (append_assoc (ticks ++ call ∷ []) more.0 (more.1 ∷ []))), more.4))
      (ends_with_call are.1 asks are.2 are.5)

  -- where the rest has no calls, there is none
  no_rest : (from : S) (asks : List (Q × A)) (made seen rest : List E) (place : ℕ) → AreEntries r from asks made → seen ++ rest ≡ made → length (calls_of r place rest) ≡ 0 → rest ≡ []
  no_rest from asks made seen [] place are is quiet = refl
  no_rest from asks made seen (e ∷ rest) place are is quiet = ⊎_elim
      (λ nothing. let sum = length-append seen (e ∷ rest) in let long = ap length (is ∙ nothing) in absurd (omega arith))
      (λ ends.
      let last : last_of e rest ≡ ends.1 = sym (last_of-append e e seen rest) ∙ (ap (last_of e) (is ∙ ends.3) ∙ last_of-append e ends.1 ends.0 []) in
      let asked : r.asked (last_of e rest) ≡ Some ends.2 = ap r.asked last ∙ ends.4 in
      absurd (cc (asked, last_quiet place e rest quiet)))
      (ends_with_call from asks made are)

module _ {O P Q A S E R : Type 0} (r : Rules Q A S E R) (start : P → S) (state : O → S) (holds : O → P → List E → Type 0) (first : O) where
  -- a caller that has all asks and calls
  record HasAll (s : State O (View O E)) (k : IsKept r start state holds first s) (view : View O E) : Type 0 where
    covered : (f : ℕ → ℕ) → total f view.mine ≤ total f k.calls
    counted : length k.calls ≡ length view.mine
    served : k.drawn ≡ length k.calls

  has_all : (s : State O (View O E)) (k : IsKept r start state holds first s) (id : ℕ) (view : View O E) → get_elem? s.views id ≡ some view → view.left + length view.mine ≡ 9223372036854775808 → HasAll s k view
  has_all s k id view at all =
      let covered : (f : ℕ → ℕ) → total f view.mine ≤ total f k.calls = λ f. (let t = total_has (λ (v : View O E). total f v.mine) s.views id view at in let p = k.places f in omega arith) in
      let own = total_has (λ (v : View O E). v.left) s.views id view at in
      let asks = k.asks in
      let bounded = k.bounded in
      let ones = covered (λ p. 1) in
      let mine = total_ones view.mine in
      let calls = total_ones k.calls in
      record { covered = covered; counted = omega arith; served = omega arith }

  -- the object is at home
  home_at_end : (s : State O (View O E)) (k : IsKept r start state holds first s) (view : View O E) → HasAll s k view → (object : O) × (s.homes ≡ some object ∷ []) × Bears r start state holds first k.log object
  home_at_end s k view all = ⊎_elim
      (λ home. home)
      (λ out.
      let fits = subst (FitsStage r k.log k.drawn (length k.calls) out.1.1) out.1.3 (k.fits out.1.0 out.1.1 out.1.2).2 in
      let low = fits.1 in
      let served = all.served in
      absurd (omega arith))
      k.placed

  -- what it has seen is the history
  seen_all : (s : State O (View O E)) (k : IsKept r start state holds first s) (id : ℕ) (view : View O E) → get_elem? s.views id ≡ some view → view.stage ≡ Idle → HasAll s k view → view.seen ≡ k.log
  seen_all s k id view at idle all =
      let fits = k.fits id view at in
      let prefix = fits.1 in
      let within = subst (FitsStage r k.log k.drawn (length k.calls) view) idle fits.2 in
      let ones = within (λ p. 1) in
      let mine = total_ones view.mine in
      let seen = total_ones (calls_of r 0 view.seen) in
      let counted = all.counted in
      let split = ap length (k.made.all ∙ (ap (calls_of r 0) (sym prefix.1) ∙ calls_of-append r 0 view.seen prefix.0)) in
      let sum = length-append (calls_of r 0 view.seen) (calls_of r (0 + length view.seen) prefix.0) in
      let none_left = no_rest r (state first) k.made.made.0 k.log view.seen prefix.0 (0 + length view.seen) k.made.made.1 prefix.1 (omega arith) in
      sym (append-nil view.seen) ∙ (ap (λ es. view.seen ++ es) (sym none_left) ∙ prefix.1)

  pub closes : (s : State O (View O E)) (k : IsKept r start state holds first s) (id : ℕ) (view : View O E) (slots : List O) (result : O) → get_elem? s.views id ≡ some view → view.stage ≡ Idle → view.left + length view.mine ≡ 9223372036854775808
      → ((place : ℕ) (object : O) → get_elem? s.homes place ≡ some (some object) → get_elem? slots place ≡ some object) → get_elem? slots 0 ≡ some result
      → ((object : O) → view.first ≡ Some object → object ≡ first) × ((calls : List ℕ) × IsPermutation view.mine calls × LeadsAlone r (state first) view.seen calls (state result)) × Bears r start state holds first view.seen result
  closes s k id view slots result at idle asks values took =
      let all = has_all s k id view at asks in
      let home = home_at_end s k view all in
      let same : result ≡ home.0 = some-injective result home.0 (sym took ∙ values 0 home.0 (ap (λ hs. get_elem? hs 0) home.1)) in
      let seen = seen_all s k id view at idle all in
      let bears : Bears r start state holds first view.seen result = subst (λ (z : List E × O). Bears r start state holds first z.0 z.1) (λ i. (sym seen i, sym same i)) home.2 in (
        (k.fits id view at).0,
        (
          k.calls,
          same_numbers view.mine k.calls all.covered all.counted,
          record {
            legal = subst (IsLegal r (state first)) (sym seen) k.made.legal;
            leads = bears.0;
            all = k.made.all ∙ ap (calls_of r 0) (sym seen);
            made = (k.made.made.0, subst (AreEntries r (state first) k.made.made.0) (sym seen) k.made.made.1);
          },
        ),
        bears,
      )
