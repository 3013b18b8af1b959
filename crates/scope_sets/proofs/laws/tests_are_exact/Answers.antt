use Rattle.scope_sets.proofs.SatisfyingLemmas.{satisfies-Decides, covers-Decides}
use Rattle.scope_sets.proofs.laws.tests_are_exact.Goals as goal

pub returns-clause-satisfies : goal.returns-clause-satisfies
returns-clause-satisfies c = satisfies-Decides

pub returns-clause-covers : goal.returns-clause-covers
returns-clause-covers c = covers-Decides
