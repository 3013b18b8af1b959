-- How a tick is replayed in the code; for private clauses.
use Rattle.std.specs.Prelude.{◌≡◌, ℕ, Bool, true, false}
use Rattle.task_types.specs.declared.change.Kind.{Kind}
use Rattle.task_types.specs.declared.change.Kind.TheVariants.{Tick}
use Rattle.task_index.specs.Contents.{Contents}
use Rattle.task_index.specs.Due.{advance}
use Rattle.farm_machine.specs.Replay.{may_tick}

-- it is a tick
abbrev pub is_tick : Kind → Bool
is_tick Tick = true
is_tick kind = false

-- a tick came exactly where it may
abbrev pub IsTicked : Contents → ℕ → Bool → Contents → Type 0
IsTicked old moment true new = (may_tick old moment ≡ true) × (new ≡ advance old moment)
IsTicked old moment false new = (may_tick old moment ≡ false) × (new ≡ old)
