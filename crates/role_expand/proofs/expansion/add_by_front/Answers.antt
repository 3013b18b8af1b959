use Rattle.std.proofs.Common.{◌≡◌, ◌++◌, List, ℕ, sym, ◌∙◌, subst}
use Rattle.std.proofs.lemmas.List.{append_cancel_left}
use Rattle.std.specs.List.{All}
use Rattle.scope_sets.specs.Scopes.{IsPrintable}
use Rattle.role_expand.specs.Roles.{assume}
use Rattle.role_expand.specs.Growth.{IsFilledFrom}
use Rattle.role_expand.specs.declared.expansion.TheConstants.{MOST_SCOPES}
use Rattle.role_expand.proofs.FillLemmas.{All-back}
use Rattle.role_expand.proofs.GrowthLemmas.{gains_none}
use Rattle.role_expand.proofs.GivesLemmas.{result_same}
use Rattle.role_expand.proofs.expansion.add_by_front.Goals as goal

pub add_filled-requires-clause-printable : goal.add_filled-requires-clause-printable
add_filled-requires-clause-printable c =
    let front : List ℕ = c.args.front.now in
    let parameter : List ℕ = c.in-Some.parameter.now in
    let is : c.args.held.now ≡ assume ++ (front ++ parameter) = sym c.as_str.ensures.value ∙ c.in-Some.ensures in
    All-back IsPrintable front parameter (All-back IsPrintable assume (front ++ parameter) (subst (λ (t : List ℕ). All IsPrintable t) is c.as_str.ensures.printable))

pub returns-in-None : goal.returns-in-None
returns-in-None c = gains_none MOST_SCOPES _ _ (λ s h. absurd (c.in-None.ensures h.0 (c.as_str.ensures.value ∙ h.1)))

pub returns-in-Some : goal.returns-in-Some
returns-in-Some c =
    let front : List ℕ = c.args.front.now in
    let parameter : List ℕ = c.in-Some.parameter.now in
    let is : c.args.held.now ≡ assume ++ (front ++ parameter) = sym c.as_str.ensures.value ∙ c.in-Some.ensures in
    result_same MOST_SCOPES _ _ _ _ _ c.add_filled.ensures (λ s h. (parameter, is, h))
    (λ s h. subst (λ (t : List ℕ). IsFilledFrom c.args.scopes.now t s)
    (append_cancel_left front h.0 parameter (append_cancel_left assume (front ++ h.0) (front ++ parameter) (sym h.1 ∙ is))) h.2)
