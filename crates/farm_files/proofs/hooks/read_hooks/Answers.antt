use Rattle.std.proofs.Common.{◌≡◌, ℕ, List, [], Some, None, Option, map, sym, ap, ◌∙◌, subst}
use Rattle.std.specs.Prelude.{MatchResult, codes}
use Rattle.hook_book.specs.Hooks.{HookData, hooks_data}
use Rattle.toml.specs.Data.{Data, array, get_member}
use Rattle.toml.specs.View.{view, items_of, table_view}
use Rattle.toml.specs.declared.value.Value.{Value}
use Rattle.toml.proofs.Views.{table_get}
use Rattle.farm_files.specs.declared.fault.Table.TheVariants.{Hook}
use Rattle.farm_files.specs.declared.fault.Rule.{Rule}
use Rattle.farm_files.specs.declared.fault.Rule.TheVariants.{WrongKind}
use Rattle.farm_files.specs.Faults.{fault_at}
use Rattle.farm_files.specs.Hooks.{AreHooks, hook_rows, hooks_in}
use Rattle.farm_files.specs.Rows.{RowAtBreaks, RowsBreak, says_of}
use Rattle.farm_files.specs.Parts.{IsFirstRow, RefusesRows}
use Rattle.farm_files.proofs.ValueLemmas.{list_of-items}
use Rattle.farm_files.proofs.RowLemmas.{array_is, rows_none, no_array}
use Rattle.farm_files.proofs.hooks.read_hooks.Goals as goal

pub returns-in-None : goal.returns-in-None
returns-in-None c =
    let e = table_get None (codes "hook") c.args.top.now.entries c.in-None.ensures.value in (
      rows_none hook_rows (get_member (codes "hook") (table_view c.args.top.now)) e,
      subst (λ o. AreHooks (hooks_in o) (hooks_data c.new.result.items)) e (subst (λ (cs : List HookData). AreHooks [] cs) (sym (ap hooks_data c.new.ensures.items)) tt),
    )

pub returns-in-Some-as_array : goal.returns-in-Some-as_array
returns-in-Some-as_array c =
    let vs = c.deref.result.now in
    let P : Option Data → Type 0 = λ o. MatchResult c.read_rows.result (λ hooks. ((row : ℕ) (rule : Rule) → ¬ RowsBreak hook_rows o row rule) × AreHooks (hooks_in o) (hooks_data hooks.items)) (RefusesRows Hook (RowsBreak hook_rows o)) in
    let Q : List Data → Type 0 = λ xs. MatchResult c.read_rows.result (λ hooks. ((row : ℕ) (rule : Rule) → ¬ RowAtBreaks hook_rows xs row rule) × AreHooks (map (says_of hook_rows) xs) (hooks_data hooks.items)) (RefusesRows Hook (RowAtBreaks hook_rows xs)) in
    let e : Some (array (items_of (map view vs))) ≡ get_member (codes "hook") (table_view c.args.top.now) =
    ap (λ (us : List Value). Some (array (items_of (map view us)))) c.deref.ensures.value
    ∙ ap (λ (d : Data). Some d) (sym (array_is (view c.in-Some.value.now) _ c.in-Some-as_array.ensures))
    ∙ table_get (Some c.in-Some.value) (codes "hook") c.args.top.now.entries c.in-Some.ensures.value in
    subst P e (subst Q (sym (list_of-items vs)) c.read_rows.ensures)

pub returns-in-None-as_array : goal.returns-in-None-as_array
returns-in-None-as_array c =
    let e = table_get (Some c.in-Some.value) (codes "hook") c.args.top.now.entries c.in-Some.ensures.value in
    rw c.at.ensures (subst (λ (o : Option Data). IsFirstRow Hook (RowsBreak hook_rows o) (fault_at Hook 0 WrongKind)) e (no_array hook_rows Hook (view c.in-Some.value.now) c.in-None-as_array.ensures))
