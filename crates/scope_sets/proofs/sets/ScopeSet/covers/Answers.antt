use Rattle.std.proofs.Common.{◌≡◌, ◌<◌, ◌≤◌, ◌+◌, ℕ, List, [], ◌∷◌, ◌++◌, take, length, get_or, Decides, Contains, sym, subst, ◌∙◌, arith, below_more}
use Rattle.std.proofs.lemmas.Bool.{both_ways}
use Rattle.std.proofs.lemmas.List.{take_more, take_all}
use Rattle.scope_sets.specs.Scopes.{star}
use Rattle.scope_sets.proofs.SatisfyingLemmas.{covers_starred, covers_meaning}
use Rattle.scope_sets.proofs.WalkLemmas.{IsPartBy, IsPartBy-begin, IsPartBy-more, IsPartBy-has, covers_whole}
use Rattle.scope_sets.proofs.sets.ScopeSet.covers.Goals as goal

pub has_starred-requires-clause-begin : goal.has_starred-requires-clause-begin
has_starred-requires-clause-begin c = rw c.as_bytes-text.ensures.value (IsPartBy-begin (take c.loop-n.n c.args.scope.now) c.loop-n.part.now c.args.self.now c.loop-n.invariant.members)

pub with_next-part-requires-clause-begin : goal.with_next-part-requires-clause-begin
with_next-part-requires-clause-begin c = rw c.as_bytes-text.ensures.value (IsPartBy-begin (take c.loop-n.n c.args.scope.now) c.loop-n.part.now c.args.self.now c.loop-n.invariant.members)

pub returns-then-has_starred-clause-test : goal.returns-then-has_starred-clause-test
returns-then-has_starred-clause-test c =
    let front : List ℕ = take c.loop-n.n c.args.scope.now in
    let there : Contains c.loop-n.part.now (front ++ star ∷ []) = rw (← c.as_bytes-text.ensures.value) (c.has_starred.ensures.0 c.if-has_starred.true) in
    sym (covers_starred c.args.self.now c.args.scope.now c.loop-n.n ((IsPartBy-has front (star ∷ []) c.loop-n.part.now c.args.self.now c.loop-n.invariant.members).0 there))

pub returns-then-has_starred-clause-meaning : goal.returns-then-has_starred-clause-meaning
returns-then-has_starred-clause-meaning c = covers_meaning _ _ _ (returns-then-has_starred-clause-test c)

pub loop-n-preserved : goal.loop-n-preserved
loop-n-preserved c =
    let text : List ℕ = c.args.scope.now in
    let n : ℕ = c.loop-n.n in
    let part : List (List ℕ) = c.loop-n.part.now in
    let next : List (List ℕ) = c.with_next-part.result.now in
    let has = IsPartBy-has (take n text) (star ∷ []) part c.args.self.now c.loop-n.invariant.members in
    let inside : n < length text = rw (← c.as_bytes-text.ensures.value) c.loop-n-test.true in
    let more : IsPartBy (take n text ++ get_or text n 0 ∷ []) next part = rw (← c.as_bytes-text.ensures.value) c.with_next-part.ensures.members in
    let narrowed : IsPartBy (take n text ++ get_or text n 0 ∷ []) next c.args.self.now = IsPartBy-more (take n text) (get_or text n 0) part next c.args.self.now c.loop-n.invariant.members more in
    record {
      rising = c.with_next-part.ensures.rising;
      members = subst (λ (z : List ℕ). IsPartBy z next c.args.self.now) (sym (take_more text n 0 inside)) narrowed;
      fronts = below_more _ _ c.loop-n.invariant.fronts (λ h. both_ways _ c.if-has_starred.false (c.has_starred.ensures.1 (rw c.as_bytes-text.ensures.value (has.1 h))));
    }

pub has_starred-requires-2-clause-begin : goal.has_starred-requires-2-clause-begin
has_starred-requires-2-clause-begin c =
    let all : take c.loop-n.n c.args.scope.now ≡ c.args.scope.now = take_all c.loop-n.n c.args.scope.now (rw (← c.as_bytes-text.ensures.value) c.loop-n-test.false) in
    let whole : IsPartBy c.args.scope.now c.loop-n.part.now c.args.self.now = subst (λ (z : List ℕ). IsPartBy z c.loop-n.part.now c.args.self.now) all c.loop-n.invariant.members in
    rw c.as_bytes-text.ensures.value (IsPartBy-begin c.args.scope.now c.loop-n.part.now c.args.self.now whole)

pub has_whole-requires-clause-begin : goal.has_whole-requires-clause-begin
has_whole-requires-clause-begin c =
    let all : take c.loop-n.n c.args.scope.now ≡ c.args.scope.now = take_all c.loop-n.n c.args.scope.now (rw (← c.as_bytes-text.ensures.value) c.loop-n-test.false) in
    let whole : IsPartBy c.args.scope.now c.loop-n.part.now c.args.self.now = subst (λ (z : List ℕ). IsPartBy z c.loop-n.part.now c.args.self.now) all c.loop-n.invariant.members in
    rw c.as_bytes-text.ensures.value (IsPartBy-begin c.args.scope.now c.loop-n.part.now c.args.self.now whole)

pub returns-then-has_starred-2-clause-test : goal.returns-then-has_starred-2-clause-test
returns-then-has_starred-2-clause-test c =
    let text : List ℕ = c.args.scope.now in
    let n : ℕ = c.loop-n.n in
    let all : take n text ≡ text = take_all n text (rw (← c.as_bytes-text.ensures.value) c.loop-n-test.false) in
    let found : Contains c.loop-n.part.now (text ++ star ∷ []) = rw (← c.as_bytes-text.ensures.value) (c.has_starred-2.ensures.0 c.if-has_starred-2.true) in
    let there : Contains c.loop-n.part.now (take n text ++ star ∷ []) = subst (λ (z : List ℕ). Contains c.loop-n.part.now (z ++ star ∷ [])) (sym all) found in
    c.if-has_starred-2.true ∙ sym (covers_starred c.args.self.now text n ((IsPartBy-has (take n text) (star ∷ []) c.loop-n.part.now c.args.self.now c.loop-n.invariant.members).0 there))

pub returns-then-has_starred-2-clause-meaning : goal.returns-then-has_starred-2-clause-meaning
returns-then-has_starred-2-clause-meaning c = covers_meaning _ _ _ (returns-then-has_starred-2-clause-test c)

pub returns-else-has_starred-2-clause-test : goal.returns-else-has_starred-2-clause-test
returns-else-has_starred-2-clause-test c =
    let text : List ℕ = c.args.scope.now in
    let n : ℕ = c.loop-n.n in
    let part : List (List ℕ) = c.loop-n.part.now in
    let long : length text ≤ n = rw (← c.as_bytes-text.ensures.value) c.loop-n-test.false in
    let all : take n text ≡ text = take_all n text long in
    let whole : IsPartBy text part c.args.self.now = subst (λ (z : List ℕ). IsPartBy z part c.args.self.now) all c.loop-n.invariant.members in
    let answer : Decides c.has_whole.result (Contains part text) = rw (← c.as_bytes-text.ensures.value) c.has_whole.ensures in
    let none : Contains c.args.self.now (take n text ++ star ∷ []) → ⊥ = λ h. both_ways _ c.if-has_starred-2.false (c.has_starred-2.ensures.1 (rw c.as_bytes-text.ensures.value
    ((IsPartBy-has text (star ∷ []) part c.args.self.now whole).1 (subst (λ (z : List ℕ). Contains c.args.self.now (z ++ star ∷ [])) all h)))) in
    let fronts : (k : ℕ) → k < n + 1 → Contains c.args.self.now (take k text ++ star ∷ []) → ⊥ = below_more _ _ c.loop-n.invariant.fronts none in
    covers_whole text part c.args.self.now c.has_whole.result whole (λ k lt. fronts k (omega (arith, lt, long))) answer

pub returns-else-has_starred-2-clause-meaning : goal.returns-else-has_starred-2-clause-meaning
returns-else-has_starred-2-clause-meaning c = covers_meaning _ _ _ (returns-else-has_starred-2-clause-test c)
