use Rattle.claim_queue.specs.declared.turns.Turn.{Turn}
use Rattle.claim_queue.specs.Heaps.{IsExchanged}
use Rattle.claim_queue.proofs.MoveLemmas.{exchanged-moved}
use Rattle.claim_queue.proofs.heap.exchange.Goals as goal

pub returns-clause-moved : goal.returns-clause-moved
returns-clause-moved g c =
    let zero : Turn = record { first = 0; second = 0; row = 0 } in
    let by = c.swap.ensures.by_index in
    let x : IsExchanged c.args.one c.args.other c.args.heap.now c.swap.new.self = record { here = by.0 zero; there = by.1 zero; rest = λ place ne not. by.2 place zero ne not } in
    exchanged-moved c.args.heap.now c.swap.new.self c.args.places.now c.args.one c.args.other c.swap.ensures.len c.requires.within.0 c.requires.within.1 c.requires.within.2 c.requires.known x
