use Rattle.std.proofs.Common.{◌≡◌, false, List, length, ap, sym, subst, ◌∙◌, rules, arith}
use Rattle.std.specs.List.{list_any}
use Rattle.std.proofs.lemmas.Grind.{common_steps}
use Rattle.std.proofs.lemmas.List.{with_items_is}
use Rattle.run_states.specs.Rows.{Row}
use Rattle.task_index.specs.Contents.{Contents, HaveOwnIds}
use Rattle.task_index.specs.Ready.{is_ready}
use Rattle.task_index.specs.Due.{is_due}
use Rattle.task_index.specs.Sweep.{numbered, all_turns}
use Rattle.run_states.specs.Later.{RowsLater}
use Rattle.task_index.specs.Indexed.{IsIndexOf}
use Rattle.task_index.specs.PlaceLists.{AreListed}
use Rattle.task_index.proofs.GroupedLemmas.{listed-later}
use Rattle.task_index.proofs.TurnLemmas.{all-stay}
use Rattle.farm_rows.proofs.SharedLemmas.{all-own, all-unready}
use Rattle.farm_rows.proofs.TableLemmas.{turns-idle, turns-numbered}
use Rattle.farm_rows.proofs.tables.TaskTables.resolve_due.Goals as goal

pub returns-then-not-due : goal.returns-then-not-due
returns-then-not-due c =
    let none : is_due c.args.self.now c.args.moment ≡ false = sym c.due.ensures ∙ c.if-not-due.true in
    turns-idle c.args.self.now c.args.moment none

pub returns : goal.returns
returns c =
    let rows = c.self.inside.rows.items in
    let new = c.resolve_due-self-inside.new.rows in
    let last = c.self.inside.last in
    let next = c.self.inside.next in
    let drawn = c.resolve_due-self-inside.result in
    let len : length new ≡ c.self.inside.rows.len = search (rules, arith) in
    ap (λ (rs : List Row). let k : Contents = record { rows = rs; last = last; next = drawn } in k) (with_items_is c.self.inside.rows new len)
    ∙ turns-numbered c.args.self.now rows last next c.args.moment new drawn c.self.view_is
    (ap (λ (rs : List Row). all_turns (numbered rs next) c.args.moment) (sym c.deref_mut.ensures.value) ∙ c.resolve_due-self-inside.ensures.turns)

pub invariant_of-self : goal.invariant_of-self
invariant_of-self c =
    let rows = c.self.inside.rows in
    let new = c.resolve_due-self-inside.new.rows in
    let before : Contents = numbered rows.items c.self.inside.next in
    let after : Contents = numbered new c.resolve_due-self-inside.result in
    let len : length new ≡ rows.len = search (rules, arith) in
    let turns : all_turns before c.args.moment ≡ after =
    ap (λ (rs : List Row). all_turns (numbered rs c.self.inside.next) c.args.moment) (sym c.deref_mut.ensures.value) ∙ c.resolve_due-self-inside.ensures.turns in
    let own : HaveOwnIds new = all-own before after c.args.moment turns c.self.invariant.kept.own in
    let none : list_any (is_ready new) new ≡ false = all-unready before after c.args.moment turns c.self.invariant.kept.none in
    let stay : RowsLater rows.items new = subst (λ (k : Contents). RowsLater rows.items k.rows) turns (all-stay before c.args.moment) in
    let long : length new ≡ length rows.items = (let all : rows.len ≡ length rows.items = search rules in len ∙ all) in
    record {
      kept = first_of (search rules, grind (arith, common_steps));
      indexed = subst (λ (rs : List Row). IsIndexOf c.resolve_due-self-inside.new.index rs) (sym (with_items_is rows new len)) c.resolve_due-self-inside.ensures.index;
      listed = subst (λ (rs : List Row). AreListed c.self.inside.lists rs) (sym (with_items_is rows new len)) (listed-later c.self.inside.lists rows.items new stay long c.self.invariant.listed);
    }
