use Rattle.std.proofs.Common.{ℕ, List}
use Rattle.scope_sets.proofs.SatisfyingLemmas.{starred_arm, whole_arm, meaning_from_test}
use Rattle.scope_sets.proofs.scopes.satisfies.Goals as goal

pub returns-in-Some-clause-test : goal.returns-in-Some-clause-test
returns-in-Some-clause-test c =
    let held : List ℕ = c.args.held.now in
    let cases = rw (c.as_slice.ensures, c.as_bytes.ensures.value) at c.in-Some.ensures.cases in
    starred_arm held c.args.asked.now c.in-Some.front.now c.starts_with.result cases.0 cases.1 (rw c.as_bytes-in-Some.ensures.value at c.starts_with.ensures.value)

pub returns-in-Some-clause-meaning : goal.returns-in-Some-clause-meaning
returns-in-Some-clause-meaning c = meaning_from_test _ _ _ (returns-in-Some-clause-test c)

pub returns-in-None-clause-test : goal.returns-in-None-clause-test
returns-in-None-clause-test c =
    let ends = rw (c.as_slice.ensures, c.as_bytes.ensures.value) at c.in-None.ensures.cases in
    whole_arm c.args.held.now c.args.asked.now c.eq.result ends c.eq.ensures

pub returns-in-None-clause-meaning : goal.returns-in-None-clause-meaning
returns-in-None-clause-meaning c = meaning_from_test _ _ _ (returns-in-None-clause-test c)
