use Rattle.std.proofs.Common.{◌≡◌, ℕ, List, ◌++◌, ◌↔◌, Contains, subst, true, arith}
use Rattle.std.proofs.lemmas.Str.Pattern.{ends_char}
use Rattle.scope_sets.specs.Scopes.{star}
use Rattle.role_expand.specs.Roles.{EndsWithStar, role_data}
use Rattle.role_expand.proofs.PlainLemmas.{listed_again, AreFree-again}
use Rattle.role_expand.proofs.role_sets.know.Goals as goal

pub invariant_of-result-clause-listed : goal.invariant_of-result-clause-listed
invariant_of-result-clause-listed c =
    listed_again _ _ c.from_list.result c.from_list-2.result c.args.role.scopes.items c.from_list.ensures.keeps c.from_list.ensures.adds_none c.from_list-2.ensures.keeps c.from_list-2.ensures.adds_none
    (rw c.deref.ensures.value at c.in_ok-plain.ensures.listed)

pub invariant_of-result-clause-free : goal.invariant_of-result-clause-free
invariant_of-result-clause-free c =
    let ends = rw c.as_str-2.ensures.value at (ends_char star c.as_str-2.result.now c.ends_with-starred.result c.ends_with-starred.ensures.cases (omega arith)) in
    AreFree-again (role_data c.args.role).id _ c.from_list.result c.ends_with-starred.result (λ h. ends.1 h.0 h.1) c.in_ok-plain.ensures.free c.from_list.ensures.adds_none
