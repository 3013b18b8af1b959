use Rattle.std.proofs.Common.{◌≡◌, ◌+◌, List, length, ap, sym, subst, ◌∙◌, rules, arith, vec_capacity}
use Rattle.std.proofs.lemmas.List.{with_items_is}
use Rattle.std.specs.Vec.{with_items}
use Rattle.run_states.specs.Rows.{Row}
use Rattle.task_index.specs.Ready.{settled}
use Rattle.farm_rows.specs.Deeds.{change_of, rows_after, drawn_by}
use Rattle.run_states.specs.Later.{RowsLater}
use Rattle.task_types.specs.declared.change.Change.{Change}
use Rattle.task_index.specs.Contents.{Contents}
use Rattle.task_index.specs.Changes.{applied}
use Rattle.task_index.specs.Indexed.{IsIndexOf}
use Rattle.task_index.proofs.GroupedLemmas.{listed-later}
use Rattle.task_index.proofs.IdLemmas.{applied-stays}
use Rattle.farm_rows.proofs.TableLemmas.{contents_of}
use Rattle.task_index.specs.Sweep.{numbered}
use Rattle.farm_rows.proofs.FitLemmas.{made-few}
use Rattle.farm_rows.proofs.ChangeLemmas.{kept-after, changed-applied}
use Rattle.farm_rows.proofs.tables.TaskTables.change.Goals as goal

pub change-drawn-requires-clause-drawn : goal.change-drawn-requires-clause-drawn
change-drawn-requires-clause-drawn c =
    let few = made-few c.self.inside.rows.items c.self.invariant.kept.fit in
    let stand = c.self.invariant.kept.few in
    let h = c.self.invariant.kept.drawn in
    omega arith

pub overflow_add-self : goal.overflow_add-self
overflow_add-self c =
    let few = made-few c.self.inside.rows.items c.self.invariant.kept.fit in
    let one = c.change-drawn.ensures.few in
    let stand = c.self.invariant.kept.few in
    let h = c.self.invariant.kept.drawn in
    omega arith

pub invariant_of-self : goal.invariant_of-self
invariant_of-self c =
    let rows = c.self.inside.rows in
    let new = c.change-drawn.new.rows in
    let at = c.args.at in
    let next = c.self.inside.next in
    let deed = c.args.deed.now in
    let len : length new ≡ rows.len = search (rules, arith) in
    let made =
    sym (ap (λ (rs : List Row). settled (numbered (rows_after at next deed rs) (next + drawn_by deed rs)) at) c.deref_mut.ensures.value)
    ∙ (c.change-drawn.ensures.settled ∙ sym (ap (λ (rs : List Row). numbered rs (next + c.change-drawn.result)) (with_items_is rows new len))) in
    let items = with_items_is rows new len in
    let change : Change = change_of at deed in
    let after : contents_of (with_items rows new).items at (next + c.change-drawn.result) ≡ applied c.args.self.now change =
    changed-applied c.args.self.now rows.items (with_items rows new).items c.self.inside.last at next c.change-drawn.result deed c.self.view_is c.requires.stands made in
    let stay : RowsLater rows.items (with_items rows new).items =
    subst (λ (k : Contents). RowsLater k.rows (with_items rows new).items) (sym c.self.view_is) (subst (λ (k : Contents). RowsLater c.args.self.now.rows k.rows) (sym after) (applied-stays c.args.self.now change)) in
    let long : length (with_items rows new).items ≡ length rows.items = (let same : length (with_items rows new).items ≡ length new = ap length items in let all : rows.len ≡ length rows.items = search rules in same ∙ (len ∙ all)) in
    record {
      kept =
          kept-after c.args.self.now rows.items (with_items rows new).items c.self.inside.last at next c.change-drawn.result deed (vec_capacity rows) (vec_capacity rows)
          c.self.view_is c.requires.lawful c.self.invariant.kept made (omega arith);
      indexed = subst (λ (rs : List Row). IsIndexOf c.change-drawn.new.index rs) (sym items) c.change-drawn.ensures.index;
      listed = listed-later c.self.inside.lists rows.items (with_items rows new).items stay long c.self.invariant.listed;
    }

pub returns : goal.returns
returns c =
    let rows = c.self.inside.rows in
    let new = c.change-drawn.new.rows in
    let at = c.args.at in
    let next = c.self.inside.next in
    let deed = c.args.deed.now in
    let len : length new ≡ rows.len = search (rules, arith) in
    let made =
    sym (ap (λ (rs : List Row). settled (numbered (rows_after at next deed rs) (next + drawn_by deed rs)) at) c.deref_mut.ensures.value)
    ∙ (c.change-drawn.ensures.settled ∙ sym (ap (λ (rs : List Row). numbered rs (next + c.change-drawn.result)) (with_items_is rows new len))) in
    changed-applied c.args.self.now rows.items (with_items rows new).items c.self.inside.last at next c.change-drawn.result deed c.self.view_is c.requires.stands made
