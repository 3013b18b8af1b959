-- The history goes on by the other caller's ask, and then by this one.
use Rattle.std.proofs.Common.{ℕ, List, ◌++◌}
use Rattle.history.specs.Histories.{entries, Leads}
use Rattle.history.proofs.AsksLemmas.{Leads-ask, HasAsked-leads}
use Rattle.farm_machine.specs.Entry.{Entry}
use Rattle.farm_machine.specs.Law.{opened}
use Rattle.farm_machine.specs.Step.{farm_rules}
use Rattle.farm_tests.proofs.connections.BusyDesk.ask.Goals as goal

pub returns-clause-asked : goal.returns-clause-asked
returns-clause-asked c =
    λ opening seen mine stood.
    let start = opened opening in
    let old = c.args.self.now.farm in
    let between = c.ask.new.self in
    let new = c.ask-2.new.self in
    let (other, first, _) = c.ask.ensures in
    let (own, second, _) = c.ask-2.ensures in
    let others = entries farm_rules old c.new-other.result c.ask.result other in
    let led = Leads-ask farm_rules start seen old c.new-other.result c.ask.result other between stood first in
    HasAsked-leads farm_rules (λ (history : List Entry) (places : List ℕ). Leads farm_rules start history new) start seen others mine between c.args.question c.ask-2.result own new led second (Leads-ask farm_rules start (seen ++ others) between c.args.question c.ask-2.result own new led second)
