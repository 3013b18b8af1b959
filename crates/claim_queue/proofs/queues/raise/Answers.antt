use Rattle.std.proofs.Common.{◌≡◌, ℕ, List, max, slice_set, ap, ◌∙◌, rules}
use Rattle.claim_queue.specs.declared.queues.Queue.{Queue}
use Rattle.claim_queue.proofs.NamedLemmas.{raised-at}
use Rattle.claim_queue.proofs.queues.raise.Goals as goal

pub returns : goal.returns
returns c =
    let queues = c.args.queues.now.items in
    let held = c.index_mut-queue.result.now in
    let most : c.max-queue.result ≡ max held.room c.args.room = search rules in
    let put : ℕ → List Queue = λ n. slice_set queues c.args.place (record { name = held.name; room = n }) in
    ap put most ∙ raised-at queues c.args.place held c.args.room c.requires.place c.requires.apart c.index_mut-queue.ensures.value
