use Rattle.std.proofs.Common.{◌≡◌, ◌+◌, length, count_by}
use Rattle.task_index.specs.Ready.{is_ready, started}
use Rattle.task_index.specs.Indexed.{IsIndexOf}
use Rattle.task_index.proofs.settle.settle.Given as goal

-- what is left to settle makes the whole
abbrev pub invariant-ready : goal.invariant-ready
invariant-ready l = record {
  indexed : IsIndexOf l.index l.rows;
  long : length l.rows ≡ length l.fn.rows;
  rows : started (is_ready l.rows) (l.first + l.drawn) l.at l.rows ≡ started (is_ready l.fn.rows) l.first l.at l.fn.rows;
  drawn : l.drawn + count_by (is_ready l.rows) l.rows ≡ count_by (is_ready l.fn.rows) l.fn.rows;
}

abbrev pub decreases-ready : goal.decreases-ready
decreases-ready l = count_by (is_ready l.rows) l.rows
