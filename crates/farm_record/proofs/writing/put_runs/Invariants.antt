use Rattle.std.proofs.Common.{◌≡◌, ◌++◌, length, take}
use Rattle.std.specs.Int.{w32, to_be_bytes}
use Rattle.std.specs.List.{flat_map, AllByRecursion}
use Rattle.farm_record.specs.Fields.{run_text, IsRun}
use Rattle.farm_record.proofs.writing.put_runs.Given as goal

abbrev pub invariant-loop-name : goal.invariant-loop-name
invariant-loop-name l =
    (l.out.items ≡ l.fn.out.items ++ (to_be_bytes w32 (length l.names) ++ flat_map run_text (take l.name-index l.names))) × AllByRecursion IsRun (take l.name-index l.names)
