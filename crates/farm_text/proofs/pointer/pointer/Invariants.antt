use Rattle.std.proofs.Common.{◌≡◌, [], ◌++◌, length, string_bytes}
use Rattle.farm_text.specs.Pointer.{pointer_under}
use Rattle.farm_text.proofs.pointer.pointer.Given as goal

-- what is left to write makes the whole
abbrev pub invariant-parts : goal.invariant-parts
invariant-parts l = string_bytes l.out ++ pointer_under [] l.parts.items ≡ pointer_under [] l.fn.parts.items

abbrev pub decreases-parts : goal.decreases-parts
decreases-parts l = length l.parts.items
