use Rattle.std.proofs.Common.{◌≡◌, ◌++◌, ◌∷◌, [], List, ℕ, Some, None, ◌↔◌, ◌∙◌, sym, arith}
use Rattle.std.proofs.lemmas.Str.Pattern.{strip_suffix_char}
use Rattle.scope_sets.specs.Scopes.{star, Satisfies}
use Rattle.role_expand.specs.Roles.{RoleData, role_data, assume}
use Rattle.role_expand.specs.Known.{IsGranted}
use Rattle.role_expand.proofs.PlainLemmas.{granted_plain, granted_front, granted_star}
use Rattle.role_expand.proofs.expansion.is_granted.Goals as goal

pub returns-in-None : goal.returns-in-None
returns-in-None c =
    let known = c.args.known.now in
    let role : RoleData = role_data known.role in
    let plain = strip_suffix_char star c.as_str.result.now None c.in-None.ensures.cases (omega arith) in
    let plain' : (front : List ℕ) → role.id ≡ front ++ star ∷ [] → ⊥ = rw c.as_str.ensures.value at plain in
    let same : Satisfies c.args.held.now known.grant ↔ IsGranted role.id c.args.held.now = granted_plain role.id c.args.held.now known.grant known.granted_by plain' in
    (λ t. same.0 (c.satisfies.ensures.meaning.0 t), λ h. c.satisfies.ensures.meaning.1 (same.1 h))

pub returns-in-None-parameter_of : goal.returns-in-None-parameter_of
returns-in-None-parameter_of c =
    let known = c.args.known.now in
    let role : RoleData = role_data known.role in
    let id_is : role.id ≡ c.in-Some.front.now ++ star ∷ [] = rw c.as_str.ensures.value at (strip_suffix_char star c.as_str.result.now (Some c.in-Some.front) c.in-Some.ensures.cases (omega arith)) in
    let none : (parameter : List ℕ) → c.args.held.now ≡ assume ++ (c.in-Some.front.now ++ parameter) → ⊥ = λ parameter e. c.in-None-parameter_of.ensures parameter (c.as_str-in-Some.ensures.value ∙ e) in
    let same : Satisfies c.args.held.now known.grant ↔ IsGranted role.id c.args.held.now = granted_star role.id c.args.held.now known.grant known.granted_by c.in-Some.front.now id_is none in
    (λ t. same.0 (c.satisfies-in-None-parameter_of.ensures.meaning.0 t), λ h. c.satisfies-in-None-parameter_of.ensures.meaning.1 (same.1 h))
