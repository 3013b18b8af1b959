use Rattle.std.proofs.Common.{◌≡◌, ◌++◌, ◌∷◌, ℕ, suc, ◌+◌, List, map, drop, sym, ap, ◌∙◌, arith, drop-cons}
use Rattle.farm_text.specs.Document.{items_of}
use Rattle.run_states.specs.Rows.{Row}
use Rattle.task_statuses.specs.Tokens.{tokens_of_items}
use Rattle.task_statuses.proofs.WritingLemmas.{item_then}
use Rattle.farm_asks.specs.Works.{taken_doc}
use Rattle.farm_asks.proofs.works.write_taken.Goals as goal

pub loop-row-preserved : goal.loop-row-preserved
loop-row-preserved c =
    let l = c.loop-row in
    let rows = c.args.rows.now in
    let row = c.row-item.result in
    let whole = c.begin_array.new.self.tokens ++ tokens_of_items (items_of (map taken_doc rows)) in
    let next : l.row-index + 1 ≡ suc l.row-index = omega arith in
    let rest = drop (suc l.row-index) rows in
    let step : drop l.row-index rows ≡ row ∷ rest = drop-cons rows l.row-index row c.loop-row-test.true ∙ ap (λ (r : Row). r ∷ rest) (sym c.row-item.is) in (
      c.in_ok-write_last_run.ensures.before ∙ l.invariant.0,
      ap (λ (n : ℕ). c.write_last_run.new.out.tokens ++ tokens_of_items (items_of (map taken_doc (drop n rows)))) next
          ∙ item_then l.out.tokens c.write_last_run.new.out.tokens whole (taken_doc row) (items_of (map taken_doc rest)) c.in_ok-write_last_run.ensures.ok
          (ap (λ (rs : List Row). l.out.tokens ++ tokens_of_items (items_of (map taken_doc rs))) (sym step) ∙ l.invariant.1),
    )
