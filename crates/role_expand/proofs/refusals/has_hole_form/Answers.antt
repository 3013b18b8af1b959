use Rattle.std.proofs.Common.{◌<◌, ◌++◌, List, ℕ, length, drop, Some, None, ◌∙◌, ap, refl, arith}
use Rattle.std.proofs.lemmas.Bool.{both_ways, not-true, not_from_false, false_from_ne_true}
use Rattle.std.proofs.lemmas.List.{drop_at}
use Rattle.std.proofs.lemmas.Str.Pattern.{split_text_parts, ends_char, contains_text}
use Rattle.scope_sets.specs.Scopes.{star}
use Rattle.role_expand.specs.Roles.{hole, SplitsAtHole, EndsWithStar}
use Rattle.role_expand.proofs.FillLemmas.{HasHoleForm-from_first, none_after}
use Rattle.role_expand.proofs.refusals.has_hole_form.Goals as goal

pub returns-in-None : goal.returns-in-None
returns-in-None c =
    let none : (b a : List ℕ) → SplitsAtHole c.args.scope.now b a → ⊥ = rw c.as_str.ensures.value at (split_text_parts hole c.as_str.result.now None c.in-None.ensures.cases) in
    (λ _. record { once = λ b a b' a' e e'. absurd (none b a e); free = λ b a e star. none b a e }, λ _. refl)

pub returns-then-not-ends_with : goal.returns-then-not-ends_with
returns-then-not-ends_with c =
    let text : List ℕ = c.args.scope.now in
    let before : List ℕ = c.in-Some.before.now in
    let after : List ℕ = c.in-Some.after.now in
    let cases = rw c.as_str.ensures.value at c.in-Some.ensures.cases in
    let cut : SplitsAtHole text before after = split_text_parts hole text (Some (c.in-Some.before, c.in-Some.after)) cases in
    let first : (b a : List ℕ) → SplitsAtHole text b a → length b < length before → ⊥ = λ b a e low.
    cases.2.0 (length b) (omega (arith, cases.6)) a (ap (λ (t : List ℕ). drop (length b) t) e ∙ drop_at b (hole ++ a) (length b) refl) in
    let ends = ends_char star before c.ends_with.result c.ends_with.ensures.cases (omega arith) in
    let star_free : ¬ EndsWithStar before = λ h. both_ways _ c.if-not-ends_with.true (ends.1 h.0 h.1) in
    let none = contains_text c.contains.result hole after c.contains.ensures.cases in (
      λ t. HasHoleForm-from_first text before after cut first (λ h. both_ways _ (not-true _ t) (none.1 h)) star_free,
      λ form. not_from_false _ (false_from_ne_true _ (λ e. none_after text before after cut form (none.0 e))),
    )

pub returns-else-not-ends_with : goal.returns-else-not-ends_with
returns-else-not-ends_with c =
    let text : List ℕ = c.args.scope.now in
    let before : List ℕ = c.in-Some.before.now in
    let after : List ℕ = c.in-Some.after.now in
    let cases = rw c.as_str.ensures.value at c.in-Some.ensures.cases in
    let cut : SplitsAtHole text before after = split_text_parts hole text (Some (c.in-Some.before, c.in-Some.after)) cases in
    let ends = ends_char star before c.ends_with.result c.ends_with.ensures.cases (omega arith) in (
      λ t. absurd (both_ways _ (not-true _ t) c.if-not-ends_with.false),
      λ form. absurd (form.free before after cut (_, ends.0 c.if-not-ends_with.false)),
    )
