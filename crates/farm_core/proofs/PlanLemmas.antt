-- A call that is planned may be finished.
use Rattle.std.proofs.Common.{◌≡◌, ◌≤◌, true, Option, Some, None, IfSome, option_map, refl, subst, arith}
use Rattle.farm_text.specs.declared.moment.TheConstants.{LAST_TOLD_MOMENT}
use Rattle.task_types.specs.declared.change.Change.{Change}
use Rattle.task_index.specs.Changes.{may_apply}
use Rattle.task_index.specs.Contents.{Contents}
use Rattle.task_index.specs.Plans as tasks
use Rattle.farm_asks.specs.declared.config.Config.{Config}
use Rattle.farm_machine.specs.Changes.{moment_of}
use Rattle.farm_asks.specs.Questions.{Asking}
use Rattle.farm_machine.specs.Planned.{Planned, IsPlanOf}
use Rattle.farm_machine.specs.State.{working}
use Rattle.farm_machine.specs.Step.{MayCall, MayFinish}

-- the change of a plan may be made where it was planned
applies-by : (contents : Contents) (plan : Option tasks.Planned) (change : Option Change) → option_map (λ p. p.change) plan ≡ change → IfSome plan (tasks.IsPlanOn contents) → IfSome change (λ change. may_apply contents change ≡ true)
applies-by contents None None is kept = tt
applies-by contents None (Some change) is kept = cc
applies-by contents (Some p) None is kept = cc
applies-by contents (Some p) (Some change) is kept =
    let same : p.change ≡ change = cc in
    subst (λ (c : Change). may_apply contents c ≡ true) same kept.lawful

pub planned-finishes : (config : Config) (contents : Contents) (asking : Asking) (plan : Planned) → plan.moment ≤ LAST_TOLD_MOMENT → IsPlanOf config contents asking plan → MayCall (working config contents) asking (MayFinish (working config contents) asking plan.judgement)
planned-finishes config contents asking plan told is =
    let reached : plan.moment ≡ moment_of contents asking = is.at in
    record {
      at_work = refl;
      told = omega arith;
      nothing_due = rw (← is.at) is.nothing_due;
      became = record { verdict = is.judged; applies = applies-by contents plan.tasks plan.judgement.change is.change is.kept };
    }
