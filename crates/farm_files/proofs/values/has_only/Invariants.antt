use Rattle.std.proofs.Common.{◌≡◌, map, string_bytes}
use Rattle.std.specs.List.{list_all, list_any}
use Rattle.std.specs.Str.{bytes_eq}
use Rattle.toml.specs.View.{table_view}
use Rattle.farm_files.specs.Values.{has_only}
use Rattle.farm_files.proofs.values.has_only.Given as goal

abbrev pub invariant-loop-key : goal.invariant-loop-key
invariant-loop-key l =
    has_only (map (λ k. k.now) l.known) (table_view l.table) ≡ list_all (λ key. list_any (λ name. bytes_eq name.now (string_bytes key)) l.known) l.key-iterator
