-- What a plan holds: the moment of its call, the judgement, and the plan of its change.
use Rattle.std.specs.Prelude.{◌≡◌, ℕ, false, Option, IfSome, option_map}
use Rattle.task_index.specs.Due.{is_due}
use Rattle.task_index.specs.Contents.{Contents}
use Rattle.task_index.specs.Plans as tasks
use Rattle.farm_asks.specs.declared.config.Config.{Config}
use Rattle.farm_machine.specs.declared.judged.Judged.{Judged}
use Rattle.farm_asks.specs.Questions.{Asking}
use Rattle.farm_machine.specs.Judgement.{Judgement}
use Rattle.farm_machine.specs.State.{working}
use Rattle.farm_machine.specs.Changes.{moment_of}
use Rattle.farm_machine.specs.Verdict.{IsVerdict}

-- the moment of a planned call, its judgement, and the plan of its change
pub record Planned : Type 0 where
  pub moment : ℕ
  pub judgement : Judgement
  pub tasks : Option tasks.Planned

-- the judgement that is planned
abbrev pub judgement_of : Judged → Judgement
judgement_of judged = record { answer = judged.answer; change = option_map (λ p. p.change) judged.change }

-- the plan of a call: its moment, its verdict, and a plan of its change on these tables where it has one
pub record IsPlanOf (config : Config) (contents : Contents) (asking : Asking) (plan : Planned) : Type 0 where
  pub at : plan.moment ≡ moment_of contents asking
  pub nothing_due : is_due contents plan.moment ≡ false
  pub judged : IsVerdict (working config contents) asking plan.judgement
  pub change : option_map (λ p. p.change) plan.tasks ≡ plan.judgement.change
  pub kept : IfSome plan.tasks (tasks.IsPlanOn contents)

-- the plan was made on these contents
abbrev pub IsPlanOn : Contents → Planned → Type 0
IsPlanOn contents plan = (config : Config) × (asking : Asking) × IsPlanOf config contents asking plan
