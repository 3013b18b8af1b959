use Rattle.std.proofs.Common.{◌≡◌, ℕ, ◌<◌, List, length, get_or, sym, ap, ◌∙◌}
use Rattle.std.proofs.lemmas.Bool.{eqb-true, eq-eqb}
use Rattle.scope_sets.proofs.WalkLemmas.{front_there, front_first}
use Rattle.scope_sets.proofs.sets.has_whole.Goals as goal

pub returns-in-Some : goal.returns-in-Some
returns-in-Some c =
    let front : List ℕ = c.args.front.now in
    let part : List (List ℕ) = c.args.part.now in
    let first : List ℕ = c.in-Some.first.now in
    let some : 0 < length part = c.in-Some.ensures.item.3.0 in
    let at : get_or part 0 first ≡ first = sym c.in-Some.ensures.item.1 in
    let long : length c.as_bytes.result.now ≡ length first = ap length c.as_bytes.ensures.value in (
      λ e. front_there front first part c.requires.rising c.requires.begin some at (sym long ∙ eqb-true _ _ e),
      λ h. eq-eqb _ _ (long ∙ front_first front first part c.requires.rising c.requires.begin some at h),
    )
