use Rattle.std.proofs.Common.{◌+◌, ℕ, List, take, sym, subst, ◌∙◌}
use Rattle.hawk_auth.specs.Found.{IsFound}
use Rattle.hawk_auth.specs.Header.{attributes_data, values_of}
use Rattle.hawk_auth.specs.declared.attributes.Attribute.{Attribute}
use Rattle.hawk_auth.proofs.HeaderLemmas.{values_first, values_again, values_no, found_some}
use Rattle.hawk_auth.proofs.header.find.Goals as goal
use Rattle.hawk_auth.proofs.header.find.Goals.{then-is_called+in-Never, else-is_called}

pub returns-in_default : goal.returns-in_default
returns-in_default c =
    let name : List ℕ = c.args.name.now in
    let xs : List Attribute = c.args.attributes.now in
    let i : ℕ = c.loop-attribute.attribute-index in
    let before : List (List ℕ) = values_of name (attributes_data (take i xs)) in
    values_again name xs i _ c.loop-attribute-test.true (sym c.is_called.ensures ∙ c.if-is_called.true)
    (found_some before c.loop-attribute.found c.loop-attribute.invariant c.in_default.not-Never)

pub loop-attribute-preserved : goal.loop-attribute-preserved
loop-attribute-preserved c =
    let name : List ℕ = c.args.name.now in
    let xs : List Attribute = c.args.attributes.now in
    let i : ℕ = c.loop-attribute.attribute-index in
    let before : List (List ℕ) = values_of name (attributes_data (take i xs)) in
    let after : List (List ℕ) = values_of name (attributes_data (take (i + 1) xs)) in
    elim c.if-is_called.branch [
      | then-is_called+in-Never w ↦
          let none = subst (IsFound before) w.in-Never.is c.loop-attribute.invariant in
          subst (IsFound after) (sym w.found-is)
          (values_first name xs i _ c.loop-attribute-test.true (sym c.is_called.ensures ∙ w.if-is_called.true) none)
      | else-is_called w ↦
          subst (IsFound after) (sym w.found-is)
          (subst (λ (vs : List (List ℕ)). IsFound vs c.loop-attribute.found) (sym (values_no name xs i _ c.loop-attribute-test.true (sym c.is_called.ensures ∙ w.if-is_called.false))) c.loop-attribute.invariant)
    ]
