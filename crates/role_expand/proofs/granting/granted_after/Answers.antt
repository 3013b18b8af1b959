use Rattle.std.proofs.Common.{None, arith}
use Rattle.std.proofs.lemmas.Str.Pattern.{strip_suffix_char}
use Rattle.scope_sets.specs.Scopes.{star}
use Rattle.role_expand.proofs.granting.granted_after.Goals as goal

pub returns-in-None-clause-beginning : goal.returns-in-None-clause-beginning
returns-in-None-clause-beginning c = λ key front there is b. absurd (strip_suffix_char star c.args.text.now None c.in-None.ensures.cases (omega arith) front is)
