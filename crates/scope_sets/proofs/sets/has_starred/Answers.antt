use Rattle.std.proofs.Common.{◌≡◌, ℕ, ◌+◌, ◌<◌, ◌≤◌, List, [], ◌∷◌, ◌++◌, All, Contains, length, get_or, sym, ap, ◌∙◌, arith}
use Rattle.std.proofs.lemmas.Bool.{eqb-true, eq-eqb, false≢true}
use Rattle.std.proofs.lemmas.List.{append-nil, length_push}
use Rattle.scope_sets.specs.Scopes.{star}
use Rattle.scope_sets.specs.Walks.{HasFront}
use Rattle.scope_sets.proofs.WalkLemmas.{front_there, front_first, IsPartBy-begin}
use Rattle.scope_sets.proofs.sets.has_starred.Goals as goal

pub returns-in-None : goal.returns-in-None
returns-in-None c =
    let starred : List ℕ = c.args.front.now ++ star ∷ [] in
    let none : length c.with_next.result.now ≤ 0 = c.in-None.ensures.item.3 in (
      λ e. absurd (false≢true e),
      λ h.
          let there : Contains c.with_next.result.now starred = (c.with_next.ensures.members starred).1 (h, ([], sym (append-nil starred))) in
          absurd (omega (arith, there.1, none)),
    )

pub returns-in-Some : goal.returns-in-Some
returns-in-Some c =
    let starred : List ℕ = c.args.front.now ++ star ∷ [] in
    let part : List (List ℕ) = c.with_next.result.now in
    let first : List ℕ = c.in-Some.first.now in
    let some : 0 < length part = c.in-Some.ensures.item.3.0 in
    let at : get_or part 0 first ≡ first = sym c.in-Some.ensures.item.1 in
    let begin : All (HasFront starred) part = IsPartBy-begin starred part c.args.part.now c.with_next.ensures.members in
    let long : length c.as_bytes.result.now ≡ length first = ap length c.as_bytes.ensures.value in
    let one_more : length starred ≡ length c.args.front.now + 1 = length_push c.args.front.now star in (
      λ e. ((c.with_next.ensures.members starred).0 (front_there starred first part c.with_next.ensures.rising begin some at (sym long ∙ eqb-true _ _ e ∙ sym one_more))).0,
      λ h. eq-eqb _ _ (long ∙ front_first starred first part c.with_next.ensures.rising begin some at ((c.with_next.ensures.members starred).1 (h, ([], sym (append-nil starred)))) ∙ one_more),
    )
