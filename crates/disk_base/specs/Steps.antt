-- The calls that a disk in memory keeps as its steps.
use Rattle.std.specs.Prelude.{ℕ, ◌-◌, List, [], ◌∷◌, length, take, drop}
use Rattle.disk_base.specs.declared.step.Step.{Step}
use Rattle.disk_base.specs.declared.step.Step.TheVariants.{Wrote, Cut, Synced}
use Rattle.disk_base.specs.History.{Call, wrote, cut, synced}

-- The calls of these steps, both with the newest first. The bytes of all writes stand in one list, the newest at its end.
abbrev pub calls_of : List ℕ → List Step → List Call
calls_of arena [] = []
calls_of arena (Wrote at size done ∷ steps) = wrote at (drop (length arena - size) arena) done ∷ calls_of (take (length arena - size) arena) steps
calls_of arena (Cut size done ∷ steps) = cut size done ∷ calls_of arena steps
calls_of arena (Synced ∷ steps) = synced ∷ calls_of arena steps
