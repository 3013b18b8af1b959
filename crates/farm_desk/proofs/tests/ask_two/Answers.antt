-- Two asks are one turn after another.
use Rattle.std.proofs.Common.{[], ◌∷◌}
use Rattle.history.proofs.AsksLemmas.{AsksInTurn-one, AsksInTurn-then}
use Rattle.farm_desk.proofs.tests.ask_two.Goals as goal

pub returns-clause-turns : goal.returns-clause-turns
returns-clause-turns g c =
    let r = g.K.Law.Machine.rules in
    let start = g.K.Law.Machine.start in
    let old = g.K.Desk.stands c.args.desk.now in
    let middle = g.K.Desk.stands c.ask-one.new.self in
    let new = g.K.Desk.stands c.ask-two.new.self in
    AsksInTurn-then r start old middle new (c.args.first ∷ []) (c.args.second ∷ []) (r.told c.ask-one.result ∷ []) (r.told c.ask-two.result ∷ []) (AsksInTurn-one r start old middle c.args.first c.ask-one.result c.ask-one.ensures.asked) (AsksInTurn-one r start middle new c.args.second c.ask-two.result c.ask-two.ensures.asked)
