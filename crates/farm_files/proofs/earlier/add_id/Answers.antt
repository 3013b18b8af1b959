use Rattle.std.proofs.Common.{◌≡◌, List, ℕ, true, cond, string_bytes, subst}
use Rattle.std.specs.Str.{bytes_eq}
use Rattle.std.specs.BTreeSet.{contains_text}
use Rattle.std.proofs.lemmas.Map.Text.{btree_set_updates_text}
use Rattle.farm_files.proofs.RowLemmas.{ids_more}
use Rattle.farm_files.proofs.earlier.add_id.Goals as goal

pub returns : goal.returns
returns c =
    let key = c.in_ok-from_str.field-0 in
    let old = c.args.ids.now in
    let puts : (other : List ℕ) → contains_text c.insert.new.self other ≡ cond (bytes_eq c.args.id.now other) true (contains_text old other) =
    λ other. subst (λ (bytes : List ℕ). contains_text c.insert.new.self other ≡ cond (bytes_eq bytes other) true (contains_text old other)) c.in_ok-from_str.ensures.ok (btree_set_updates_text (string_bytes key) old c.insert.new.self true c.in_ok-insert.ensures.updates other) in
    λ used are. ids_more used c.args.id.now old c.insert.new.self are puts
