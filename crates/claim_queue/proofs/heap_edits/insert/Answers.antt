use Rattle.std.proofs.Common.{◌≡◌, ◌++◌, [], ◌∷◌, List, ◌∙◌, rules, sym, subst, length, take, drop, slice_set}
use Rattle.claim_queue.specs.declared.turns.Turn.{Turn}
use Rattle.claim_queue.specs.Heaps.{AreMoved, IsKept, IsPut}
use Rattle.claim_queue.proofs.EditLemmas.{inserted, written}
use Rattle.claim_queue.proofs.heap_edits.insert.Goals as goal

pub returns-clause-put : goal.returns-clause-put
returns-clause-put g c =
    let heap = c.args.heap.now.items in
    let turn = c.args.turn in
    let later = c.rise.new.heap in
    let pushed : c.deref_mut.result.now ≡ heap ++ turn ∷ [] = search rules in
    let long : c.len-place.result ≡ length heap = search rules in
    let moved : AreMoved (heap ++ turn ∷ []) later (slice_set c.args.places.now turn.row (length heap)) c.rise.new.places =
    subst (λ n. AreMoved (heap ++ turn ∷ []) later (slice_set c.args.places.now turn.row n) c.rise.new.places) long
    (subst (λ (l : List Turn). AreMoved l later (slice_set c.args.places.now turn.row c.len-place.result) c.rise.new.places) pushed c.rise.ensures.moved) in
    let is : take c.push.new.self.len (later ++ drop (length later) c.push.new.self.items) ≡ later =
    written later c.push.new.self.items c.push.new.self.len (c.rise.ensures.moved.long ∙ c.deref_mut.ensures.len) in
    subst (λ (l : List Turn). IsPut turn heap l c.args.places.now c.rise.new.places) (sym is)
    (inserted heap turn later c.args.places.now c.rise.new.places c.requires.absent.0 moved)

pub returns-clause-kept : goal.returns-clause-kept
returns-clause-kept g c =
    let later = c.rise.new.heap in
    let is : take c.push.new.self.len (later ++ drop (length later) c.push.new.self.items) ≡ later =
    written later c.push.new.self.items c.push.new.self.len (c.rise.ensures.moved.long ∙ c.deref_mut.ensures.len) in
    subst (λ (l : List Turn). IsKept l c.rise.new.places) (sym is) (c.rise.ensures.ordered, c.rise.ensures.moved.known)
