-- What a joined pass has seen is legal, in whatever state its desk began.
use Rattle.std.proofs.Common.{[]}
use Rattle.farm_machine.specs.Law.{Opening}
use Rattle.farm_serving.proofs.share.PassShare.merge.Goals as goal

pub returns-clause-joined : goal.returns-clause-joined
returns-clause-joined g c = c.join.ensures.joined

pub returns-clause-legal : goal.returns-clause-legal
returns-clause-legal g c = λ opening is.
    let from : Opening = record { state = opening; records = []; faults = 0 } in
    (c.join.ensures.stands from is).3
