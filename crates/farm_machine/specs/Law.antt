-- What a history of a farm begins from.
use Rattle.std.specs.Prelude.{ℕ, List}
use Rattle.task_types.specs.declared.change.Change.{Change}
use Rattle.farm_machine.specs.State.{State}

-- the state that a history begins from, and of the disk, if there is one, the changes whose records it held and how many of its calls had failed
pub record Opening : Type 0 where
  pub state : State
  pub records : List Change
  pub faults : ℕ

-- the state that an opening begins from
abbrev pub opened : Opening → State
opened opening = opening.state
