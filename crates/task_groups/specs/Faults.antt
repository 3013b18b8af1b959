-- When a group has no room for a task.
use Rattle.std.specs.Prelude.{◌≡◌, ◌≢◌, ℕ, List, Option, Some}
use Rattle.task_groups.specs.declared.fault.ReserveFault.{ReserveFault}
use Rattle.task_groups.specs.declared.fault.ReserveFault.TheVariants.{OtherScheduler, NoMemory}

-- the cause of a fault, where the group keeps this scheduler, if it has one, and the task has that one
abbrev pub IsCauseOf : ReserveFault → Option (List ℕ) → List ℕ → Type 0
IsCauseOf (OtherScheduler told) kept scheduler = (kept ≡ Some told) × (told ≢ scheduler)
IsCauseOf NoMemory kept scheduler = Unit {0}
