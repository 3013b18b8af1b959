use Rattle.std.proofs.Common.{length, ap, sym, ◌∙◌, arith}
use Rattle.std.specs.List.{list_all}
use Rattle.task_index.specs.Contents.{Contents}
use Rattle.task_index.specs.Due.{all_due_moments, resolved_at}
use Rattle.task_index.specs.Sweep.{numbered, all_turns, runs_made, fits}
use Rattle.farm_rows.proofs.FitLemmas.{made-few}
use Rattle.farm_rows.proofs.StepLemmas.{settled-fits, settled-made, resolved-fits, resolved-made}
use Rattle.task_index.proofs.TurnLemmas.{turn-fewer, all-step, all-idle}
use Rattle.farm_rows.proofs.turns.resolve_due.Goals as goal

pub turn-next-requires-clause-drawn : goal.turn-next-requires-clause-drawn
turn-next-requires-clause-drawn c =
    let few = made-few c.turns.rows c.turns.invariant.fit in
    let stand = c.requires.few in
    let h = c.turns.invariant.drawn in
    omega arith

pub overflow_add-next : goal.overflow_add-next
overflow_add-next c =
    let few = made-few c.turns.rows c.turns.invariant.fit in
    let stand = c.requires.few in
    let h = c.turns.invariant.drawn in
    let drawn = c.turn-next.ensures.few in
    omega arith

pub turns-smaller : goal.turns-smaller
turns-smaller c =
    let before : Contents = numbered c.turns.rows c.turns.next in
    let less = turn-fewer before c.args.moment c.in-Some.at (sym c.in-Some.ensures) in
    let same = ap (λ (k : Contents). length (all_due_moments k.rows)) c.turn-next.ensures.turn in
    omega arith

pub turns-preserved : goal.turns-preserved
turns-preserved c =
    let at = c.in-Some.at in
    let before : Contents = numbered c.turns.rows c.turns.next in
    let is = c.turn-next.ensures.turn in
    record {
      turns = ap (λ (k : Contents). all_turns k c.args.moment) (sym is) ∙ (sym (all-step before c.args.moment at (sym c.in-Some.ensures)) ∙ c.turns.invariant.turns);
      indexed = c.turn-next.ensures.index;
      fit = ap (λ (k : Contents). list_all fits k.rows) (sym is) ∙ settled-fits (resolved_at before at) at (resolved-fits before at c.turns.invariant.fit);
      drawn =
          (let rows = ap (λ (k : Contents). runs_made k.rows) is in
          let next = ap (λ (k : Contents). k.next) is in
          let made = settled-made (resolved_at before at) at (resolved-made before at c.turns.invariant.drawn) in
          omega arith);
    }

pub returns-clause-turns : goal.returns-clause-turns
returns-clause-turns c = sym c.turns.invariant.turns ∙ all-idle (numbered c.turns.rows c.turns.next) c.args.moment (sym c.in_default.ensures)
