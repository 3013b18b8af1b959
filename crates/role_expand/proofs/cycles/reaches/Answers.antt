use Rattle.std.proofs.Common.{◌++◌, List, ℕ, Some, None, subst}
use Rattle.std.proofs.lemmas.Bool.{false≢true}
use Rattle.std.proofs.lemmas.Str.Pattern.{split_text_parts}
use Rattle.role_expand.specs.Roles.{hole, assume, SplitsAtHole}
use Rattle.role_expand.specs.Cycles.{StartAlike}
use Rattle.role_expand.proofs.cycles.reaches.Goals as goal

pub returns-in-None : goal.returns-in-None
returns-in-None c =
    let none : (b a : List ℕ) → SplitsAtHole c.args.scope.now b a → ⊥ = rw c.as_str.ensures.value at (split_text_parts hole c.as_str.result.now None c.in-None.ensures.cases) in
    (λ t. absurd (false≢true t), λ h. absurd (none h.0 h.1 h.2))

pub returns-in-Some : goal.returns-in-Some
returns-in-Some c =
    let before : List ℕ = c.in-Some.before.now in
    let after : List ℕ = c.in-Some._after.now in
    let front : List ℕ = c.args.front.now in
    let cut : SplitsAtHole c.args.scope.now before after = rw (← c.as_str.ensures.value) (split_text_parts hole c.as_str.result.now (Some (c.in-Some.before, c.in-Some._after)) c.in-Some.ensures.cases) in (
      λ t. (before, after, cut, c.start_alike.ensures.0 t),
      λ h. c.start_alike.ensures.1 (subst (λ (b : List ℕ). StartAlike b (assume ++ front)) (c.requires.once h.0 h.1 before after h.2 cut) h.3),
    )
