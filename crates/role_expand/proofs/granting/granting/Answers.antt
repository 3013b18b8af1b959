use Rattle.std.proofs.Common.{◌≡◌, ◌≢◌, ◌++◌, List, ℕ, ◌∙◌, inl, inr, sym}
use Rattle.std.proofs.lemmas.Bool.{both_ways}
use Rattle.role_expand.specs.Roles.{assume}
use Rattle.role_expand.specs.Index.{text_of}
use Rattle.role_expand.proofs.GrantLemmas.{fits_from_gives, each_from_gives}
use Rattle.role_expand.proofs.granting.granting.Goals as goal

pub returns-else-grants_each : goal.returns-else-grants_each
returns-else-grants_each c = λ key role s there has given.
    let none : (rest : List ℕ) → c.args.held.now ≢ assume ++ rest = λ rest e. c.in-None.ensures rest (c.as_str.ensures.value ∙ e) in
    let each = each_from_gives c.args.held.now none role s given in
    absurd (both_ways _ c.if-grants_each.false (c.grants_each.ensures.1 (each.0, c.as_str-in-None.ensures.value ∙ each.1, each.2)))

pub returns-in_ok-places-in-Some : goal.returns-in_ok-places-in-Some
returns-in_ok-places-in-Some c = λ key role s there has given.
    let after : c.args.held.now ≡ assume ++ c.in-Some.text.now = sym c.as_str.ensures.value ∙ c.in-Some.ensures in
    elim (fits_from_gives c.args.held.now c.in-Some.text.now after role (text_of key) s has given) [
      | inl b ↦ c.in_ok-places-in-Some.ensures.fronts key there b
      | inr h ↦ c.in_ok-places-in-Some.ensures.beginning key h.0 there h.1 h.2
    ]
