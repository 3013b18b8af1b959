use Rattle.std.proofs.Common.{◌≡◌, ◌++◌, ◌∷◌, [], List, ℕ, Some, None, arith}
use Rattle.std.proofs.lemmas.Result.{err_from_is_err_and}
use Rattle.std.proofs.lemmas.Str.Pattern.{strip_suffix_char}
use Rattle.scope_sets.specs.Scopes.{star}
use Rattle.role_expand.specs.Roles.{RoleData, HasHoleForm}
use Rattle.role_expand.specs.Known.{filled_data}
use Rattle.role_expand.specs.declared.expansion.TheConstants.{MOST_SCOPES}
use Rattle.role_expand.proofs.GrowthLemmas.{fails_wider}
use Rattle.role_expand.proofs.GivesLemmas.{forms_of_same, result_same, result_more, Gives-from_written, written_from_Gives, Gives-from_front, Gives-from_star, parts_from_Gives}
use Rattle.role_expand.proofs.expansion.add_with_parameter.Goals as goal

pub returns-in-None : goal.returns-in-None
returns-in-None c =
    let known = c.args.known.now in
    let role : RoleData = filled_data known in
    let plain = strip_suffix_char star c.as_str.result.now None c.in-None.ensures.cases (omega arith) in
    let plain' : (front : List ℕ) → role.id ≡ front ++ star ∷ [] → ⊥ = rw c.as_str.ensures.value at plain in
    result_same MOST_SCOPES _ _ _ _ _ (rw c.list-scopes.ensures.value at c.add_as_written.ensures)
    (Gives-from_written role known.filled (λ s. (λ h. h, λ h. h)) c.args.held.now known.grant known.granted_by plain') (written_from_Gives role known.filled (λ s. (λ h. h, λ h. h)) c.args.held.now known.grant known.granted_by plain')

pub returns-in_err-add_by_front-in-Some : goal.returns-in_err-add_by_front-in-Some
returns-in_err-add_by_front-in-Some c =
    let known = c.args.known.now in
    let role : RoleData = filled_data known in
    let id_is : role.id ≡ c.in-Some.front.now ++ star ∷ [] = rw c.as_str.ensures.value at (strip_suffix_char star c.as_str.result.now (Some c.in-Some.front) c.in-Some.ensures.cases (omega arith)) in
    let p = err_from_is_err_and c.from_residual.result c.from_residual.ensures.1 in
    rw (p.1, p.2)
    (fails_wider MOST_SCOPES _ _ _ _ (rw c.list-scopes.ensures.value at c.in_err-add_by_front-in-Some.ensures) (Gives-from_front role known.filled (λ s. (λ h. h, λ h. h)) c.args.held.now known.grant known.granted_by c.in-Some.front.now id_is))

pub returns-in_ok-add_by_front-in-Some : goal.returns-in_ok-add_by_front-in-Some
returns-in_ok-add_by_front-in-Some c =
    let known = c.args.known.now in
    let role : RoleData = filled_data known in
    let front : List ℕ = c.in-Some.front.now in
    let id_is : role.id ≡ front ++ star ∷ [] = rw c.as_str.ensures.value at (strip_suffix_char star c.as_str.result.now (Some c.in-Some.front) c.in-Some.ensures.cases (omega arith)) in
    result_more MOST_SCOPES _ _ _ _ _ _ _ (rw c.list-scopes.ensures.value at c.in_ok-add_by_front-in-Some.ensures) (rw c.list-scopes.ensures.value at c.add_with_star.ensures)
    (Gives-from_front role known.filled (λ s. (λ h. h, λ h. h)) c.args.held.now known.grant known.granted_by front id_is) (Gives-from_star role known.filled (λ s. (λ h. h, λ h. h)) c.args.held.now known.grant known.granted_by front id_is)
    (parts_from_Gives role known.filled (λ s. (λ h. h, λ h. h)) c.args.held.now known.grant known.granted_by front id_is)

pub add_by_front-requires : goal.add_by_front-requires
add_by_front-requires c =
    let known = c.args.known.now in
    let role : RoleData = filled_data known in
    let id_is : role.id ≡ c.in-Some.front.now ++ star ∷ [] = rw c.as_str.ensures.value at (strip_suffix_char star c.as_str.result.now (Some c.in-Some.front) c.in-Some.ensures.cases (omega arith)) in
    rw c.list-scopes.ensures.value (forms_of_same role known.filled (λ s. (λ h. h, λ h. h)) c.args.held.now known.grant known.granted_by HasHoleForm (c.requires (c.in-Some.front.now, id_is)))

pub add_with_star-requires : goal.add_with_star-requires
add_with_star-requires c =
    let known = c.args.known.now in
    let role : RoleData = filled_data known in
    let id_is : role.id ≡ c.in-Some.front.now ++ star ∷ [] = rw c.as_str.ensures.value at (strip_suffix_char star c.as_str.result.now (Some c.in-Some.front) c.in-Some.ensures.cases (omega arith)) in
    rw c.list-scopes.ensures.value (forms_of_same role known.filled (λ s. (λ h. h, λ h. h)) c.args.held.now known.grant known.granted_by HasHoleForm (c.requires (c.in-Some.front.now, id_is)))
