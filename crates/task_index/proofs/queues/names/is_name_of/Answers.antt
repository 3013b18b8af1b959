use Rattle.std.proofs.Common.{◌≡◌, true, false, ap, sym, ◌∙◌}
use Rattle.std.proofs.lemmas.Slice.Eq.{bytes_eq-Decides}
use Rattle.task_types.specs.Forms.{queue_name}
use Rattle.task_types.proofs.QueueNameLemmas.{cut_by}
use Rattle.task_index.proofs.queues.names.is_name_of.Goals as goal

pub returns-then-eq : goal.returns-then-eq
returns-then-eq c =
    let queue = c.args.queue.now in
    let all = cut_by c.as_str.result.now c.split_once.result c.split_once.ensures.cases in
    let parts = rw c.in-Some.is at all in
    let first = c.as_str-first.ensures in
    let second = c.as_str-second.ensures in (
      λ yes_.
          let one : c.in-Some.provisioner.now ≡ queue.provisioner_id = (bytes_eq-Decides c.in-Some.provisioner.now c.as_str-first.result.now).0 (sym c.eq.ensures ∙ c.if-eq.true) ∙ first.value in
          let two : c.in-Some.worker.now ≡ queue.worker_type = (bytes_eq-Decides c.in-Some.worker.now c.as_str-second.result.now).0 (sym c.eq-then-eq.ensures ∙ yes_) ∙ second.value in
          sym c.as_str.ensures ∙ (parts.0 ∙ (ap (λ p. queue_name p c.in-Some.worker.now) one ∙ ap (queue_name queue.provisioner_id) two)),
      λ is.
          let same = parts.1 queue.provisioner_id queue.worker_type first.form (c.as_str.ensures ∙ is) in
          c.eq-then-eq.ensures ∙ (bytes_eq-Decides c.in-Some.worker.now c.as_str-second.result.now).1 (same.1 ∙ sym second.value),
    )

pub returns-else-eq : goal.returns-else-eq
returns-else-eq c =
    let queue = c.args.queue.now in
    let all = cut_by c.as_str.result.now c.split_once.result c.split_once.ensures.cases in
    let parts = rw c.in-Some.is at all in
    let first = c.as_str-first.ensures in (
      λ yes_. absurd (cc),
      λ is.
          let same = parts.1 queue.provisioner_id queue.worker_type first.form (c.as_str.ensures ∙ is) in
          let known = (bytes_eq-Decides c.in-Some.provisioner.now c.as_str-first.result.now).1 (same.0 ∙ sym first.value) in
          let both : true ≡ false = sym known ∙ (sym c.eq.ensures ∙ c.if-eq.false) in
          absurd (cc),
    )

pub returns-in-None : goal.returns-in-None
returns-in-None c =
    let queue = c.args.queue.now in
    let all = cut_by c.as_str.result.now c.split_once.result c.split_once.ensures.cases in
    let none = rw c.in-None.is at all in
    (λ yes_. absurd (cc), λ is. absurd (none queue.provisioner_id queue.worker_type c.as_str-first.ensures.form (c.as_str.ensures ∙ is)))
