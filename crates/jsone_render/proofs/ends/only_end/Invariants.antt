use Rattle.std.proofs.Common.{◌≡◌, ◌≤◌, take, Some}
use Rattle.jsone_render.specs.Ends.{opened}
use Rattle.jsone_render.proofs.BracketLemmas.{onward, start}
use Rattle.jsone_render.proofs.ends.only_end.Given as goal

abbrev pub invariant-loop-i : goal.invariant-loop-i
invariant-loop-i l = record { walked : onward (take l.i l.bytes) start ≡ Some l.place; few : opened l.place ≤ l.i }
