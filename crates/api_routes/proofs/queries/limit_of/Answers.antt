use Rattle.std.proofs.Common.{◌≡◌, ◌≤◌, [], ◌∷◌, length, sym, ap, ◌∙◌, subst}
use Rattle.api_routes.specs.Queries.{limit_of}
use Rattle.api_routes.specs.Values.{IsValue}
use Rattle.api_routes.proofs.QueryLemmas.{limit-many}
use Rattle.api_routes.proofs.queries.limit_of.Goals as goal

pub returns-in-Absent : goal.returns-in-Absent
unfolding limit_of
returns-in-Absent c = λ values is.
    let empty : values ≡ [] = subst (IsValue values) c.in-Absent.is is in
    sym (ap limit_of empty)

pub returns-in-Once : goal.returns-in-Once
unfolding limit_of
returns-in-Once c = λ values is.
    let one : values ≡ c.in-Once.text.now ∷ [] = subst (IsValue values) c.in-Once.is is in
    c.number_in.ensures.value ∙ sym (ap limit_of one)

pub returns-in-Repeated : goal.returns-in-Repeated
returns-in-Repeated c = λ values is.
    let many : 2 ≤ length values = subst (IsValue values) c.in-Repeated.is is in
    sym (limit-many values many)
