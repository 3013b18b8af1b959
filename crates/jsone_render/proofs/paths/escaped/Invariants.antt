use Rattle.std.proofs.Common.{◌≡◌, ◌++◌, string_bytes}
use Rattle.std.specs.Str.Iter.{chars_rest}
use Rattle.farm_text.specs.Reading.{escaped}
use Rattle.jsone_render.proofs.paths.escaped.Given as goal

-- what is left to write makes the whole
abbrev pub invariant-chars : goal.invariant-chars
invariant-chars l = string_bytes l.out ++ escaped (chars_rest l.c-iterator) ≡ escaped l.key
