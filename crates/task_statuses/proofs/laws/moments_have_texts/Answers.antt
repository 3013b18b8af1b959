use Rattle.task_statuses.specs.Calendar.{moment_text}
use Rattle.farm_text.proofs.MomentLemmas.{IsMomentText-one}
use Rattle.task_statuses.proofs.CalendarLemmas.{IsMomentText-moment_text}
use Rattle.task_statuses.proofs.laws.moments_have_texts.Goals as goal

pub returns-clause-is : goal.returns-clause-is
returns-clause-is c = IsMomentText-moment_text

pub returns-clause-one : goal.returns-clause-one
returns-clause-one c = λ millis text within is. IsMomentText-one millis text (moment_text millis) is (IsMomentText-moment_text millis within)
