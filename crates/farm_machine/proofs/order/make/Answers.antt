use Rattle.std.proofs.Common.{◌≡◌, ◌&&◌, min, nat_le, false, length, sym, ◌∙◌}
use Rattle.farm_machine.specs.Order.{makes_task}
use Rattle.farm_machine.specs.Refused.{setting_at}
use Rattle.farm_machine.proofs.MakeLemmas.{IsMade-so}
use Rattle.farm_machine.proofs.order.make.Goals as goal

pub returns-clause-made : goal.returns-clause-made
returns-clause-made c =
    let at = setting_at c.args.config.now c.args.tables.now c.args.moment c.args._drawn in
    let free : (makes_task c.args.kind && nat_le (min c.args.config.now.max_tasks 1_000_000) (length c.args.tables.now.rows)) ≡ false = sym c.is_full_for.ensures ∙ c.if-is_full_for.false in
    IsMade-so at c.args.kind c.plan_change.result free c.plan_change.ensures.made
