use Rattle.std.proofs.Common.{◌≡◌, sym, ap, ◌∙◌, length}
use Rattle.claim_queue.proofs.EditLemmas.{put-last-leaves}
use Rattle.claim_queue.proofs.heap_edits.put_last.Goals as goal

pub returns-clause-ordered : goal.returns-clause-ordered
returns-clause-ordered g c =
    let heap = c.args.heap.now in
    let len_is : heap.len ≡ length heap.items = sym c.deref_mut.ensures.len ∙ ap length c.deref_mut.ensures.value in
    (put-last-leaves heap.items c.deref_mut.result.now c.exchange.new.heap c.pop.new.self.items c.args.places.now c.exchange.new.places c.args.place c.len-last.result heap.len c.requires.kept c.deref_mut.ensures.value
    c.requires.within c.len-last.ensures len_is c.exchange.ensures.exchanged c.exchange.ensures.moved c.pop.ensures.rest).0

pub returns-clause-known : goal.returns-clause-known
returns-clause-known g c =
    let heap = c.args.heap.now in
    let len_is : heap.len ≡ length heap.items = sym c.deref_mut.ensures.len ∙ ap length c.deref_mut.ensures.value in
    (put-last-leaves heap.items c.deref_mut.result.now c.exchange.new.heap c.pop.new.self.items c.args.places.now c.exchange.new.places c.args.place c.len-last.result heap.len c.requires.kept c.deref_mut.ensures.value
    c.requires.within c.len-last.ensures len_is c.exchange.ensures.exchanged c.exchange.ensures.moved c.pop.ensures.rest).1

pub returns-clause-taken : goal.returns-clause-taken
returns-clause-taken g c =
    let heap = c.args.heap.now in
    let len_is : heap.len ≡ length heap.items = sym c.deref_mut.ensures.len ∙ ap length c.deref_mut.ensures.value in
    (put-last-leaves heap.items c.deref_mut.result.now c.exchange.new.heap c.pop.new.self.items c.args.places.now c.exchange.new.places c.args.place c.len-last.result heap.len c.requires.kept c.deref_mut.ensures.value
    c.requires.within c.len-last.ensures len_is c.exchange.ensures.exchanged c.exchange.ensures.moved c.pop.ensures.rest).2
