use Rattle.std.proofs.Common.{◌≡◌, ℕ, List, ap, ◌∙◌, subst, refl}
use Rattle.std.specs.List.{list_any}
use Rattle.std.specs.Str.{bytes_eq}
use Rattle.toml.specs.View.{view, table_view}
use Rattle.farm_files.specs.Earlier.{AreIdsOf}
use Rattle.call_rules.specs.HookNames.{IsHookGroupId, IsHookId}
use Rattle.farm_files.specs.Hooks.{HookText, hook_in, hook_rows, name_of}
use Rattle.farm_files.specs.Parts.{said_by}
use Rattle.farm_files.specs.Rows.{HasRowForm}
use Rattle.farm_files.proofs.HookLemmas.{row_made}
use Rattle.farm_files.proofs.RuleLemmas.{id_refused, json_refused, row_taken}
use Rattle.farm_files.proofs.hooks.read_row.Goals as goal

pub returns-then-has_id : goal.returns-then-has_id
returns-then-has_id c =
    let ms = table_view c.in-Some.keys.now in
    let same = c.in-Ok.ensures.1 in
    let form : HasRowForm hook_rows c.args.row (hook_in ms) = record {
      within = c.if-row-ge-MOST_ROWS.false;
      form = record {
        group = subst IsHookGroupId (c.as_bytes.ensures.value ∙ ap (λ (t : HookText). t.group) same) (c.if-not-is_hook_group_id.ensures.0 refl);
        id = subst IsHookId (c.as_bytes-else-not-is_hook_group_id.ensures.value ∙ ap (λ (t : HookText). t.id) same) (c.if-not-is_hook_id.ensures.0 refl);
      };
    } in
    let e : c.as_str.result.now ≡ name_of (hook_in ms) = c.as_str.ensures.value ∙ c.in-Ok-name_of.ensures ∙ ap name_of same in
    let found = subst (λ (x : List ℕ). (used : List (List ℕ)) → AreIdsOf used c.args.names.now → c.has_id.result ≡ list_any (λ other. bytes_eq x other) used) e c.has_id.ensures in
    id_refused hook_rows c.args.names.now c.args.row (view c.args.value.now) ms c.in-Some.ensures c.in-Ok.ensures.0 form c.has_id.result c.if-has_id.true found

pub returns : goal.returns
returns c =
    let ms = table_view c.in-Some.keys.now in
    let same = c.in-Ok.ensures.1 in
    let form : HasRowForm hook_rows c.args.row (hook_in ms) = record {
      within = c.if-row-ge-MOST_ROWS.false;
      form = record {
        group = subst IsHookGroupId (c.as_bytes.ensures.value ∙ ap (λ (t : HookText). t.group) same) (c.if-not-is_hook_group_id.ensures.0 refl);
        id = subst IsHookId (c.as_bytes-else-not-is_hook_group_id.ensures.value ∙ ap (λ (t : HookText). t.id) same) (c.if-not-is_hook_id.ensures.0 refl);
      };
    } in
    let e : c.as_str.result.now ≡ name_of (hook_in ms) = c.as_str.ensures.value ∙ c.in-Ok-name_of.ensures ∙ ap name_of same in
    let found = subst (λ (x : List ℕ). (used : List (List ℕ)) → AreIdsOf used c.args.names.now → c.has_id.result ≡ list_any (λ other. bytes_eq x other) used) e c.has_id.ensures in
    row_made c.args.names.now c.args.row (view c.args.value.now) ms (said_by c.in-Ok.said) c.in-Some.ensures same
    (row_taken hook_rows c.args.names.now c.args.row (view c.args.value.now) ms c.in-Some.ensures c.in-Ok.ensures.0 form c.has_id.result c.if-has_id.false found)
    (json_refused hook_rows c.args.names.now c.args.row (view c.args.value.now) ms c.in-Some.ensures c.in-Ok.ensures.0 form c.has_id.result c.if-has_id.false found)
    c.make_hook.result c.make_hook.ensures
