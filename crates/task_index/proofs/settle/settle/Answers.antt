use Rattle.std.proofs.Common.{◌≡◌, ◌+◌, List, length, ap, sym, ◌∙◌, subst, arith}
use Rattle.run_states.specs.Rows.{Row, scheduled}
use Rattle.task_index.specs.Ready.{is_ready, started}
use Rattle.task_index.proofs.PlaceLemmas.{place-no}
use Rattle.task_index.proofs.ReadyLemmas.{started-none, count-none}
use Rattle.task_index.proofs.FirstReadyLemmas.{IsStep, first-within, first-starts, change-length}
use Rattle.task_index.proofs.settle.settle.Goals as goal

pub start_at-requires-clause-within : goal.start_at-requires-clause-within
start_at-requires-clause-within c = first-within (is_ready c.ready.rows) c.ready.rows c.in-Some.place (sym c.in-Some.ensures)

pub ready-smaller : goal.ready-smaller
ready-smaller c =
    let rows = c.ready.rows in
    let number = c.args.first + c.ready.drawn in
    let step = subst (λ (new : List Row). IsStep rows new number c.args.at) (sym c.start_at.ensures.rows) (first-starts rows number c.args.at c.in-Some.place (sym c.in-Some.ensures)) in
    let fewer = step.fewer in
    omega arith

pub ready-preserved : goal.ready-preserved
ready-preserved c =
    let rows = c.ready.rows in
    let new = c.start_at.new.rows in
    let at = c.args.at in
    let number = c.args.first + c.ready.drawn in
    let place = c.in-Some.place in
    let step = subst (λ (rs : List Row). IsStep rows rs number at) (sym c.start_at.ensures.rows) (first-starts rows number at place (sym c.in-Some.ensures)) in
    let sum : c.args.first + (c.ready.drawn + 1) ≡ number + 1 = omega arith in
    record {
      indexed = c.start_at.ensures.index;
      long = ap length c.start_at.ensures.rows ∙ (change-length (scheduled number at) rows place ∙ c.ready.invariant.long);
      rows = ap (λ n. started (is_ready new) n at new) sum ∙ (step.rest ∙ c.ready.invariant.rows);
      drawn = (let fewer = step.fewer in let drawn = c.ready.invariant.drawn in omega arith);
    }

pub returns-clause-rows : goal.returns-clause-rows
returns-clause-rows c =
    let rows = c.ready.rows in
    sym (started-none (is_ready rows) (c.args.first + c.ready.drawn) c.args.at rows (place-no (is_ready rows) rows (sym c.in_default.ensures))) ∙ c.ready.invariant.rows

pub returns-clause-drawn : goal.returns-clause-drawn
returns-clause-drawn c =
    let rows = c.ready.rows in
    let counted = count-none (is_ready rows) rows (place-no (is_ready rows) rows (sym c.in_default.ensures)) in
    let drawn = c.ready.invariant.drawn in
    omega arith
