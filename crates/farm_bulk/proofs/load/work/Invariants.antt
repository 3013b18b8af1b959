use Rattle.std.proofs.Common.{◌-◌, ◌*◌, ◌≤◌, [], string_bytes}
use Rattle.farm_machine.specs.State.{State}
use Rattle.farm_server.specs.declared.served.TheConstants.{REQUESTS}
use Rattle.farm_bulk.specs.Bulk.{Works}
use Rattle.farm_bulk.proofs.load.work.Given as goal

-- the claims that are left have asks left, and whatever a worker does from here on makes the whole
abbrev pub invariant-claims : goal.invariant-claims
invariant-claims l =
    (REQUESTS * (l.most - l.counter) ≤ l.desk.1)
    × ((after : State) → Works l.desk.0 l.generator (string_bytes l.text) after → Works l.fn.desk.0 l.fn.generator [] after)
