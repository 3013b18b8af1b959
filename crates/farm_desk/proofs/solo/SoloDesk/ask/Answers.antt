-- The object is asked alone, so the history goes on by this ask's entries, and its place is the last of all calls.
use Rattle.std.proofs.Common.{◌≡◌, ap, sym, subst}
use Rattle.history.specs.Asks.{LeadsAlone}
use Rattle.history.proofs.AsksLemmas.{LeadsAlone-ask, HasAsked-alone}
use Rattle.farm_desk.proofs.solo.SoloDesk.ask.Goals as goal

pub returns-clause-asked : goal.returns-clause-asked
returns-clause-asked g c =
    λ opening seen mine stands.
    let r = g.O.Law.Machine.rules in
    let start = g.O.Law.Machine.start opening in
    let object : c.args.self.now.0 ≡ c.self.inside.object = sym (ap (λ p. p.0) c.self.view_is) in
    let stood = subst (λ (o : g.row.O.Denot). LeadsAlone r start seen mine (g.O.Object.state o) × g.O.Object.holds o opening seen) object stands in
    let old = g.O.Object.state c.self.inside.object in
    let new = g.O.Object.state c.ask.new.self in
    let (call, step, holds) = c.ask.ensures in
    HasAsked-alone r _ start seen mine old c.args.question c.ask.result call new (stood.0.legal, stood.0.leads) step (LeadsAlone-ask r start seen mine old c.args.question c.ask.result call new stood.0 step, holds opening seen (stood.0.legal, stood.0.leads) stood.1)
