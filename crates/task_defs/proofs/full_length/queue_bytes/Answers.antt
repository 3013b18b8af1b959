use Rattle.std.proofs.Common.{ℕ, List, [], ◌∷◌, ◌+◌, ◌*◌, ◌≤◌, length, sum, subst, arith}
use Rattle.farm_text.specs.Document.{text}
use Rattle.task_defs.proofs.FullLengthLemmas.{covered, summed, queue_total}
use Rattle.task_defs.proofs.full_length.queue_bytes.Goals as goal

pub returns : goal.returns
returns c within =
    let p : ℕ = c.text_bytes-provisioner.result in
    let w : ℕ = c.text_bytes-worker.result in
    let all : sum (p ∷ p ∷ w ∷ w ∷ 6 ∷ []) ≤ c.total.result = summed _ _ _ c.as_slice.ensures c.total.ensures within in
    queue_total c.args.queue.now _ p w (omega (arith, all))
    (covered text _ _ _ c.as_str.ensures.value c.text_bytes-provisioner.ensures.text (omega arith))
    (subst (λ (t : List ℕ). 6 * length t + 2 ≤ p) c.as_str.ensures.value (c.text_bytes-provisioner.ensures.characters (omega arith)))
    (covered text _ _ _ c.as_str-2.ensures.value c.text_bytes-worker.ensures.text (omega arith))
    (subst (λ (t : List ℕ). 6 * length t + 2 ≤ w) c.as_str-2.ensures.value (c.text_bytes-worker.ensures.characters (omega arith)))
