use Rattle.std.proofs.Common.{◌≡◌, ◌-◌, ◌++◌, string_bytes}
use Rattle.farm_bulk.specs.Bulk.{creations, after_draws}
use Rattle.farm_bulk.proofs.load.creations.Given as goal

-- what is made, with what is left to make, is the whole; and so is what is drawn
abbrev pub invariant-tasks : goal.invariant-tasks
invariant-tasks l =
    (string_bytes l.text ++ creations (l.number-end - l.number) l.number l.generator ≡ creations l.fn.count l.fn.first l.fn.generator)
    × (after_draws (l.number-end - l.number) l.generator ≡ after_draws l.fn.count l.fn.generator)
