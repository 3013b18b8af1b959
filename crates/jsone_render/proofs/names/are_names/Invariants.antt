use Rattle.std.proofs.Common.{◌≡◌}
use Rattle.std.specs.List.{list_all}
use Rattle.jsone_render.specs.Names.{is_name}
use Rattle.jsone_render.proofs.KeyLemmas.{keys_in}
use Rattle.jsone_render.proofs.names.are_names.Given as goal

abbrev pub invariant-loop-key : goal.invariant-loop-key
invariant-loop-key l = list_all is_name (keys_in l.key-iterator) ≡ list_all is_name (keys_in l.members.entries)
