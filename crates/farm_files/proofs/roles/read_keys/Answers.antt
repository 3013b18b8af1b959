use Rattle.std.proofs.Common.{◌≡◌, ℕ, List, Bor, Some, None, map, true, sym, ap, ◌∙◌}
use Rattle.std.specs.Prelude.{codes}
use Rattle.toml.specs.View.{view, table_view}
use Rattle.toml.proofs.Views.{table_get}
use Rattle.farm_files.specs.Values.{has_only}
use Rattle.farm_files.specs.Roles.{role_keys}
use Rattle.farm_files.proofs.RowLemmas.{lacks, keys_from_values}
use Rattle.farm_files.proofs.roles.read_keys.Goals as goal

pub returns-in-None : goal.returns-in-None
returns-in-None c =
    let ms = table_view c.args.row.now in
    let only : has_only role_keys ms ≡ true = ap (λ (t : List (Bor (List ℕ))). has_only (map (λ k. k.now) t) ms) (sym c.as_slice.ensures) ∙ sym c.if-not-has_only.ensures in
    let e = table_get None (codes "id") c.args.row.now.entries c.in-None.ensures.value in (only, λ k. lacks _ e k.id)

pub returns-in-None-get : goal.returns-in-None-get
returns-in-None-get c =
    let ms = table_view c.args.row.now in
    let only : has_only role_keys ms ≡ true = ap (λ (t : List (Bor (List ℕ))). has_only (map (λ k. k.now) t) ms) (sym c.as_slice.ensures) ∙ sym c.if-not-has_only.ensures in
    let e = table_get None (codes "scopes") c.args.row.now.entries c.in-None-get.ensures.value in (only, λ k. lacks _ e k.scopes)

pub returns-in-Some-get : goal.returns-in-Some-get
returns-in-Some-get c =
    let ms = table_view c.args.row.now in
    let only : has_only role_keys ms ≡ true = ap (λ (t : List (Bor (List ℕ))). has_only (map (λ k. k.now) t) ms) (sym c.as_slice.ensures) ∙ sym c.if-not-has_only.ensures in
    let e1 = table_get (Some c.in-Some.id) (codes "id") c.args.row.now.entries c.in-Some.ensures.value in
    let e2 = table_get (Some c.in-Some-get.scopes) (codes "scopes") c.args.row.now.entries c.in-Some-get.ensures.value in
    keys_from_values ms (view c.in-Some.id.now) (view c.in-Some-get.scopes.now) only e1 e2 c.read_values.result c.read_values.ensures
