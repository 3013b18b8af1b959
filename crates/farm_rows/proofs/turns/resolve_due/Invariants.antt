use Rattle.std.proofs.Common.{◌≡◌, ◌≤◌, true, length}
use Rattle.std.specs.List.{list_all}
use Rattle.task_index.specs.Due.{all_due_moments}
use Rattle.task_index.specs.Sweep.{numbered, all_turns, runs_made, fits}
use Rattle.task_index.specs.Indexed.{IsIndexOf}
use Rattle.farm_rows.proofs.turns.resolve_due.Given as goal

-- what is left to be resolved makes the whole; what is kept beside the tasks is right
abbrev pub invariant-turns : goal.invariant-turns
invariant-turns l = record {
  turns : all_turns (numbered l.rows l.next) l.moment ≡ all_turns (numbered l.fn.rows l.fn.first) l.moment;
  indexed : IsIndexOf l.index l.rows;
  fit : list_all fits l.rows ≡ true;
  drawn : l.next ≤ runs_made l.rows;
}

abbrev pub decreases-turns : goal.decreases-turns
decreases-turns l = length (all_due_moments l.rows)
