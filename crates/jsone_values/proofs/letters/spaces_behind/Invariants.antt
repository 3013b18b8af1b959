use Rattle.std.proofs.Common.{◌≡◌, ◌≤◌, length}
use Rattle.std.specs.List.{suffix_len}
use Rattle.jsone_values.specs.Letters.{is_space}
use Rattle.jsone_values.proofs.letters.spaces_behind.Given as goal

abbrev pub invariant-loop-character : goal.invariant-loop-character
invariant-loop-character l = record { counted : l.spaces ≡ suffix_len is_space l.yielded; within : l.spaces ≤ length l.yielded }
