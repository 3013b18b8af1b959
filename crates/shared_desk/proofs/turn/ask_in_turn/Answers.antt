-- The steps of an ask make one turn.
use Rattle.std.proofs.Common.{◌≡◌, refl, sym, ◌∙◌, subst}
use Rattle.shared_desk.specs.Rule.{raised, standing, HasTurn}
use Rattle.shared_desk.proofs.Turning.{may_raise, turn_made}
use Rattle.shared_desk.proofs.turn.ask_in_turn.Goals as goal

pub raise-requires-clause-made : goal.raise-requires-clause-made
raise-requires-clause-made g c =
    may_raise g.O.Law.Machine.rules g.O.Law.Machine.start g.O.Object.state g.O.Object.holds c.args.seat.now.me c.draw-ticket.new.seat.me c.await_turn.new.seat.me c.ask_object-answer.new.seat.me c.draw-ticket.result c.args.question c.ask_object-answer.result _
    c.requires.rest c.draw-ticket.ensures.drawn c.await_turn.ensures.taken c.ask_object-answer.ensures.asked (sym c.of-asked.ensures, refl)

pub returns-clause-turn : goal.returns-clause-turn
returns-clause-turn g c =
    let r = g.O.Law.Machine.rules in
    let state = g.O.Object.state in
    let made = subst (λ z. raised r state (λ q a. (q ≡ z) × (a ≡ c.ask_object-answer.result)) c.ask_object-answer.new.seat.me c.raise.new.seat.me) c.of-asked.ensures c.raise.ensures.raised in
    let table = c.raise.ensures.at ∙ (c.ask_object-answer.ensures.at ∙ (c.await_turn.ensures.at ∙ c.draw-ticket.ensures.at)) in
    subst (λ z. HasTurn r (standing state c.args.seat.now.table_id c.args.seat.now.me.0) c.args.question c.ask_object-answer.result (standing state z c.raise.new.seat.me.0)) (sym table)
    (turn_made r g.O.Law.Machine.start state g.O.Object.holds c.args.seat.now.table_id c.args.seat.now.me c.draw-ticket.new.seat.me c.await_turn.new.seat.me c.ask_object-answer.new.seat.me c.raise.new.seat.me c.draw-ticket.result c.args.question c.ask_object-answer.result
    c.requires.rest c.draw-ticket.ensures.drawn c.await_turn.ensures.taken c.ask_object-answer.ensures.asked made).0

pub returns-clause-rest : goal.returns-clause-rest
returns-clause-rest g c =
    let r = g.O.Law.Machine.rules in
    let state = g.O.Object.state in
    let made = subst (λ z. raised r state (λ q a. (q ≡ z) × (a ≡ c.ask_object-answer.result)) c.ask_object-answer.new.seat.me c.raise.new.seat.me) c.of-asked.ensures c.raise.ensures.raised in
    (turn_made r g.O.Law.Machine.start state g.O.Object.holds c.args.seat.now.table_id c.args.seat.now.me c.draw-ticket.new.seat.me c.await_turn.new.seat.me c.ask_object-answer.new.seat.me c.raise.new.seat.me c.draw-ticket.result c.args.question c.ask_object-answer.result
    c.requires.rest c.draw-ticket.ensures.drawn c.await_turn.ensures.taken c.ask_object-answer.ensures.asked made).1
