use Rattle.farm_text.specs.Doc.{document}
use Rattle.std.proofs.Common.{ap, Some, ◌∙◌}
use Rattle.task_defs.specs.Values.{IsMoment}
use Rattle.task_defs.proofs.ValueLemmas.{moment_found, no_text}
use Rattle.task_defs.proofs.values.moment.Goals as goal

pub returns-in-Some : goal.returns-in-Some
returns-in-Some c =
    moment_found c.read_moment.result c.as_bytes.result.now (document c.args.value.now) (ap Some c.as_bytes.ensures.value ∙ c.in-Some.ensures) c.read_moment.ensures.is c.read_moment.ensures.none c.read_moment.ensures.only

pub returns-in-None : goal.returns-in-None
returns-in-None c = no_text IsMoment (document c.args.value.now) c.in-None.ensures
