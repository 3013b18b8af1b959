use Rattle.std.proofs.Common.{◌≡◌, ◌+◌, ◌-◌, ◌*◌, ◌%◌, ◌≤◌, [], ◌∷◌, ◌++◌, replicate}
use Rattle.farm_bulk.specs.Bulk.{after_draws, parts_of, AreCreated}
use Rattle.farm_machine.specs.State.{State}
use Rattle.farm_bulk.proofs.load.create_all.Given as goal

-- as many asks are gone as connections may take, as much is drawn as tasks are made, and what is made from here on makes the whole
abbrev pub invariant-parts : goal.invariant-parts
invariant-parts l =
    (l.fn.desk.1 ≤ l.desk.1 + l.part * 1000)
    × (l.generator ≡ after_draws (l.part * 1000) l.fn.generator)
    × ((after : State) → AreCreated (replicate (l.full - l.part) 1000 ++ (l.fn.tasks % 1000) ∷ []) (l.part * 1000) l.generator l.desk.0 after
    → AreCreated (parts_of l.fn.tasks) 0 l.fn.generator l.fn.desk.0 after)
