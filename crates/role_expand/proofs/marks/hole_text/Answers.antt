use Rattle.std.proofs.Common.{◌++◌, List, ℕ, Some, None, subst, Option}
use Rattle.std.specs.Option.{MatchOption}
use Rattle.std.proofs.lemmas.Str.Pattern.{split_text_parts}
use Rattle.role_expand.specs.Roles.{hole, assume, SplitsAtHole}
use Rattle.role_expand.specs.Cycles.{StartAlike, Reaches}
use Rattle.role_expand.proofs.marks.hole_text.Goals as goal

weaker : {X P P' : Type 0} {Q Q' : X → Type 0} (o : Option X) → MatchOption o P Q → (P → P') → ((x : X) → Q x → Q' x) → MatchOption o P' Q'
weaker None h f g = f h
weaker (Some x) h f g = g x h

pub returns-in-None : goal.returns-in-None
returns-in-None c =
    let none : (b a : List ℕ) → SplitsAtHole c.args.scope.now b a → ⊥ = rw c.as_str.ensures.value at (split_text_parts hole c.as_str.result.now None c.in-None.ensures.cases) in
    λ front h. none h.0 h.1 h.2

pub returns-in-Some : goal.returns-in-Some
returns-in-Some c =
    let before : List ℕ = c.in-Some.before.now in
    let after : List ℕ = c.in-Some._after.now in
    let cut : SplitsAtHole c.args.scope.now before after = rw (← c.as_str.ensures.value) (split_text_parts hole c.as_str.result.now (Some (c.in-Some.before, c.in-Some._after)) c.in-Some.ensures.cases) in
    let alike : (front : List ℕ) → Reaches c.args.scope.now front → StartAlike before (assume ++ front) = λ front h. subst (λ (b : List ℕ). StartAlike b (assume ++ front)) (c.requires.once h.0 h.1 before after h.2 cut) h.3 in
    weaker c.edge_text.result c.edge_text.ensures (λ none front h. none front (alike front h)) (λ text all front h. all front (alike front h))
