use Rattle.std.proofs.Common.{ℕ, Some, Option, option_map, ap, sym, subst, ◌∙◌}
use Rattle.claim_queue.specs.declared.turns.Turn.{Turn}
use Rattle.claim_queue.specs.Behind.{IsPlaceOf}
use Rattle.claim_queue.proofs.WalkLemmas.{walk-best, walk-none, walk-left}
use Rattle.claim_queue.proofs.firsts.Firsts.next.Goals as goal

pub returns-in_err-queue-clause-row : goal.returns-in_err-queue-clause-row
returns-in_err-queue-clause-row g c =
    let f = c.self.inside in
    let none = subst (λ (q : Option ℕ). IsPlaceOf q f.name.now f.pending.now) c.in_err-queue.was c.self.invariant in
    c.from_residual.ensures ∙ walk-none c.args.self.now f.name.now f.last f.pending.now c.self.view_is none

pub returns-in_err-turn-clause-row : goal.returns-in_err-turn-clause-row
returns-in_err-turn-clause-row g c =
    let f = c.self.inside in
    let place = subst (λ (q : Option ℕ). IsPlaceOf q f.name.now f.pending.now) c.in_ok-queue.was c.self.invariant in
    let row = ap (λ (n : Option Turn). option_map (λ (t : Turn). t.row) n) c.in_err-turn.was in
    c.from_residual-in_err-turn.ensures
    ∙ (sym row ∙ walk-best c.args.self.now f.name.now f.last f.pending.now c.self.view_is c.in_ok-queue.queue c.next_turn.result place.1 c.next_turn.ensures.next)

pub returns-clause-row : goal.returns-clause-row
returns-clause-row g c =
    let f = c.self.inside in
    let place = subst (λ (q : Option ℕ). IsPlaceOf q f.name.now f.pending.now) c.in_ok-queue.was c.self.invariant in
    walk-best c.args.self.now f.name.now f.last f.pending.now c.self.view_is c.in_ok-queue.queue (Some c.in_ok-turn.turn) place.1 c.in_ok-turn.ensures.next

pub returns-clause-left : goal.returns-clause-left
returns-clause-left g c =
    let f = c.self.inside in
    let place = subst (λ (q : Option ℕ). IsPlaceOf q f.name.now f.pending.now) c.in_ok-queue.was c.self.invariant in
    walk-left c.args.self.now f.name.now f.last f.pending.now c.self.view_is c.in_ok-queue.queue c.in_ok-turn.turn place.1 c.in_ok-turn.ensures.next
