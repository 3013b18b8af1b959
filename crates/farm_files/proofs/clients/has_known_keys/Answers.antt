use Rattle.std.proofs.Common.{List, ℕ, Bor, map, ap, ◌∙◌}
use Rattle.toml.specs.View.{table_view}
use Rattle.farm_files.specs.Values.{has_only}
use Rattle.farm_files.proofs.clients.has_known_keys.Goals as goal

pub returns : goal.returns
returns c = c.has_only.ensures ∙ ap (λ (t : List (Bor (List ℕ))). has_only (map (λ k. k.now) t) (table_view c.args.row.now)) c.as_slice.ensures
