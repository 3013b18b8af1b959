use Rattle.std.proofs.Common.{◌==◌, sym}
use Rattle.api_routes.proofs.CutLemmas.{before-found, before-none, after-found}
use Rattle.api_routes.proofs.queries.cut.Goals as goal

pub returns-in-Some-clause-before : goal.returns-in-Some-clause-before
returns-in-Some-clause-before c = sym (before-found (λ b. b == c.args.at) c.args.text.now c.in-Some.place (sym c.in-Some.ensures.value))

pub returns-in-Some-clause-behind : goal.returns-in-Some-clause-behind
returns-in-Some-clause-behind c = sym (after-found (λ b. b == c.args.at) c.args.text.now c.in-Some.place (sym c.in-Some.ensures.value))

pub returns-in-None-clause-before : goal.returns-in-None-clause-before
returns-in-None-clause-before c = sym (before-none (λ b. b == c.args.at) c.args.text.now (sym c.in-None.ensures.value))
