use Rattle.std.proofs.Common.{◌+◌, ◌<◌, [], ◌∷◌, ◌++◌, map, take, length, sym, ◌∙◌, subst, refl, arith}
use Rattle.std.proofs.lemmas.List.{length-map, take_all}
use Rattle.std.proofs.lemmas.Option.{slice_get_within}
use Rattle.hook_book.specs.Hooks.{hook_data, hooks_data}
use Rattle.farm_files.specs.Hooks.{AreHooks, hook_rows}
use Rattle.farm_files.proofs.HookLemmas.{hooks_more, named}
use Rattle.toml.specs.View.{view}
use Rattle.farm_files.specs.declared.fault.Table.TheVariants.{Hook}
use Rattle.farm_files.specs.Earlier.{AreIdsOf}
use Rattle.farm_files.specs.Faults.{fault_at}
use Rattle.farm_files.specs.Rows.{RowAtBreaks, says_of}
use Rattle.farm_files.specs.Parts.{IsFirstRow}
use Rattle.farm_files.proofs.RowLemmas.{at_place, earlier_is, row_sound_at, row_breaks_at, row_unbroken_at, rows_more, row_within, said_ids_more, said_more}
use Rattle.farm_files.proofs.hooks.read_rows.Goals as goal

pub overflow_cast-row : goal.overflow_cast-row
overflow_cast-row c = omega (arith, c.loop-row.invariant.3)

pub returns-in-Err-Breaks : goal.returns-in-Err-Breaks
returns-in-Err-Breaks c =
    let vs = c.args.rows.now in
    let i = c.loop-row.row in
    let v = c.index-rows-row.result in
    let es = map (says_of hook_rows) (take i (map view vs)) in
    let at = at_place vs i v c.loop-row-test.true c.index-rows-row.is in
    let are = subst (λ said. AreIdsOf (map hook_rows.id_of said) c.loop-row.names) (earlier_is hook_rows vs i) c.loop-row.invariant.1 in
    let least = (rw c.in-Err-Breaks.field-0-is at c.in-Err-Breaks.ensures) es are in
    let first : IsFirstRow Hook (RowAtBreaks hook_rows (map view vs)) (fault_at Hook i c.in-Err-Breaks.rule) = record {
      table_is = refl;
      breaks = row_breaks_at hook_rows (map view vs) i es (view v) c.in-Err-Breaks.rule at refl least.breaks;
      earlier = λ row rule lt. c.loop-row.invariant.2 row rule lt;
      least = λ rule lt. row_unbroken_at hook_rows (map view vs) i es (view v) rule at refl (least.least rule lt);
    } in
    rw (c.at.ensures, c.in-Err-Breaks.rule-is) first

pub loop-row-preserved : goal.loop-row-preserved
loop-row-preserved c =
    let vs = c.args.rows.now in
    let i = c.loop-row.row in
    let v = c.index-rows-row.result in
    let es = map (says_of hook_rows) (take i (map view vs)) in
    let at = at_place vs i v c.loop-row-test.true c.index-rows-row.is in
    let are = subst (λ said. AreIdsOf (map hook_rows.id_of said) c.loop-row.names) (earlier_is hook_rows vs i) c.loop-row.invariant.1 in
    let sound = c.in-Ok.ensures.0 es are in (
      subst (λ cs. AreHooks (map (says_of hook_rows) (map view (take (i + 1) vs))) cs) (sym c.in_ok-hooks-in-Ok.ensures.hooks)
          (subst (λ ts. AreHooks ts (hooks_data c.loop-row.hooks.items ++ hook_data c.in-Ok.hook ∷ [])) (sym (said_more hook_rows vs i v c.loop-row-test.true c.index-rows-row.is))
          (hooks_more (map (says_of hook_rows) (map view (take i vs))) (hooks_data c.loop-row.hooks.items) (says_of hook_rows (view v)) (hook_data c.in-Ok.hook) c.loop-row.invariant.0 c.in-Ok.ensures.1)),
      said_ids_more hook_rows vs i v c.as_str-in-Ok-2.result.now _ _ c.loop-row-test.true c.index-rows-row.is
          (named (says_of hook_rows (view v)) c.as_str-in-Ok-2.result.now c.as_str.result.now c.as_str-in-Ok.result.now (c.as_str-in-Ok-2.ensures.value ∙ c.in_ok-name-in-Ok.ensures) (c.as_str.ensures ∙ c.in-Ok.ensures.1.group) (c.as_str-in-Ok.ensures ∙ c.in-Ok.ensures.1.id)) c.loop-row.invariant.1 c.in_ok-add_id-in-Ok.ensures,
      rows_more hook_rows (map view vs) i c.loop-row.invariant.2 (row_sound_at hook_rows (map view vs) i es (view v) at refl sound),
      (let lt : i < 10000 = row_within hook_rows es i (view v) sound in omega arith),
    )

pub returns : goal.returns
returns c =
    let vs = c.args.rows.now in
    let i = c.loop-row.row in (
      λ row rule b. c.loop-row.invariant.2 row rule (let lt : row < length (map view vs) = slice_get_within (map view vs) row b.0 b.1 in omega (arith, length-map vs view)) b,
      subst (λ us. AreHooks (map (says_of hook_rows) (map view us)) (hooks_data c.loop-row.hooks.items)) (take_all i vs c.loop-row-test.false) c.loop-row.invariant.0,
    )
