use Rattle.std.proofs.Common.{◌≡◌, ℕ, List, Bor, map, true, false, refl, sym, ap, ◌∙◌}
use Rattle.std.specs.Prelude.{codes}
use Rattle.std.proofs.lemmas.Result.{err_from_is_err_and}
use Rattle.role_expand.specs.Roles.{RoleData}
use Rattle.farm_asks.specs.declared.config.Config.{Config}
use Rattle.toml.specs.Data.{get_member}
use Rattle.toml.specs.View.{table_view}
use Rattle.farm_files.specs.Values.{has_only}
use Rattle.farm_files.specs.Files.{table_names}
use Rattle.farm_files.specs.Roles.{roles_in}
use Rattle.farm_files.specs.declared.settings.Settings.{Settings}
use Rattle.farm_files.proofs.FarmLemmas.{first_unknown, first_farm, refuses_clients, refuses_hooks, tables_sound}
use Rattle.farm_files.proofs.reading.read_tables.Goals as goal

pub returns-then-not-has_only : goal.returns-then-not-has_only
returns-then-not-has_only c =
    let top = table_view c.args.top.now in
    let fails : has_only table_names top ≡ false = ap (λ (t : List (Bor (List ℕ))). has_only (map (λ k. k.now) t) top) (sym c.as_slice.ensures) ∙ sym c.if-not-has_only.ensures in
    rw c.at.ensures (first_unknown top fails)

pub returns-in-Err-Breaks : goal.returns-in-Err-Breaks
returns-in-Err-Breaks c =
    let top = table_view c.args.top.now in
    let only : has_only table_names top ≡ true = ap (λ (t : List (Bor (List ℕ))). has_only (map (λ k. k.now) t) top) (sym c.as_slice.ensures) ∙ sym c.if-not-has_only.ensures in
    let least = rw c.in-Err-Breaks.field-0-is at c.in-Err-Breaks.ensures in
    rw (c.at-in-Err-Breaks.ensures, c.in-Err-Breaks.rule-is) (first_farm top c.in-Err-Breaks.rule only least)

pub read_grants-requires-clause-only : goal.read_grants-requires-clause-only
read_grants-requires-clause-only c =
    let top = table_view c.args.top.now in
    let only : has_only table_names top ≡ true = ap (λ (t : List (Bor (List ℕ))). has_only (map (λ k. k.now) t) top) (sym c.as_slice.ensures) ∙ sym c.if-not-has_only.ensures in
    only

pub returns-in_err-roles : goal.returns-in_err-roles
returns-in_err-roles c =
    let p = err_from_is_err_and c.from_residual.result c.from_residual.ensures.1 in rw (p.1, p.2) c.in_err-roles.ensures

pub returns-in_err-clients : goal.returns-in_err-clients
returns-in_err-clients c =
    let top = table_view c.args.top.now in
    let only : has_only table_names top ≡ true = ap (λ (t : List (Bor (List ℕ))). has_only (map (λ k. k.now) t) top) (sym c.as_slice.ensures) ∙ sym c.if-not-has_only.ensures in
    let p = err_from_is_err_and c.from_residual-in_err-clients.result c.from_residual-in_err-clients.ensures.1 in
    rw (p.1, p.2) (refuses_clients top only c.in-Ok.ensures.0 c.in_ok-roles.ensures.0 (roles_in (get_member (codes "role") top)) refl c.in_ok-roles.ensures.1 c.in_err-clients.field-0.0 c.in_err-clients.ensures)

pub returns-in_err-hooks : goal.returns-in_err-hooks
returns-in_err-hooks c =
    let top = table_view c.args.top.now in
    let only : has_only table_names top ≡ true = ap (λ (t : List (Bor (List ℕ))). has_only (map (λ k. k.now) t) top) (sym c.as_slice.ensures) ∙ sym c.if-not-has_only.ensures in
    let p = err_from_is_err_and c.from_residual-in_err-hooks.result c.from_residual-in_err-hooks.ensures.1 in
    rw (p.1, p.2) (refuses_hooks top only c.in-Ok.ensures.0 c.in_ok-roles.ensures.0 (roles_in (get_member (codes "role") top)) refl c.in_ok-roles.ensures.1 c.in_ok-clients.ensures.0 c.in_err-hooks.field-0.0 c.in_err-hooks.ensures)

pub returns : goal.returns
returns c =
    let top = table_view c.args.top.now in
    let only : has_only table_names top ≡ true = ap (λ (t : List (Bor (List ℕ))). has_only (map (λ k. k.now) t) top) (sym c.as_slice.ensures) ∙ sym c.if-not-has_only.ensures in
    let made : Settings → List RoleData → Config = λ s rs. record { host = s.host; port = s.port; claim_timeout = s.claim_timeout; max_tasks = s.max_tasks; roles = rs; clients = c.in_ok-clients.clients; hooks = c.in_ok-hooks.hooks } in record {
      sound = tables_sound top only c.in-Ok.ensures.0 c.in_ok-roles.ensures.0 (roles_in (get_member (codes "role") top)) refl c.in_ok-roles.ensures.1 c.in_ok-clients.ensures.0 c.in_ok-hooks.ensures.0;
      said = ap (λ s. made s c.in_ok-roles.roles) c.in-Ok.ensures.1 ∙ ap (made _) c.in_ok-roles.ensures.2;
      clients = c.in_ok-clients.ensures.1;
      hooks = c.in_ok-hooks.ensures.1;
    }
