use Rattle.std.proofs.Common.{List, IfOk, ap, sym, ◌∙◌, subst}
use Rattle.run_states.specs.Rows.{Row}
use Rattle.task_types.specs.declared.change.Kind.TheVariants.{Create}
use Rattle.task_index.specs.Contents.{Contents}
use Rattle.task_index.specs.Plans.{Room, FindsRoom}
use Rattle.task_index.specs.Ready.{has_ready}
use Rattle.farm_rows.proofs.tables.TaskTables.room_for.Goals as goal

pub returns-clause-none : goal.returns-clause-none
returns-clause-none c = sym (ap has_ready c.self.view_is) ∙ c.self.invariant.kept.none

pub returns-clause-room : goal.returns-clause-room
returns-clause-room c =
    subst (λ (rs : List Row). IfOk c.new.result (λ (room : Room). FindsRoom rs room (Create c.args.creation.now))) (c.deref.ensures.value ∙ ap (λ (k : Contents). k.rows) c.self.view_is) c.new.ensures
