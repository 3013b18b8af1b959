use Rattle.std.proofs.Common.{◌≡◌, ◌+◌, ℕ, List, Some, None, sym, subst, arith}
use Rattle.task_index.specs.declared.queues.Queues.{Queues}
use Rattle.task_index.specs.Queues.{HasOneSlash, HasRoomFor, queue_names}
use Rattle.task_index.proofs.QueueNoteLemmas.{noted-all, noted-room, noted-row}
use Rattle.task_index.proofs.queues.Queues.note.Goals as goal

same-some : (a b : List ℕ) → Some a ≡ Some b → a ≡ b
same-some a b is = cc

pub returns-in_err-reserve-2-clause-same : goal.returns-in_err-reserve-2-clause-same
returns-in_err-reserve-2-clause-same c = λ rows long all.
    let new : Queues = record { pending = c.reserve.new.self; names = c.reserve-2.new.self; next = None } in
    noted-all c.args.self.now new rows c.in_ok-name.name (c.min-spare.result + 1) (c.args.place + 1) all c.in_ok-reserve.ensures c.reserve-2.ensures.items (λ n some. absurd (cc))

pub returns-clause-same : goal.returns-clause-same
returns-clause-same c = λ rows long all.
    let name = c.in_ok-name.name in
    let new : Queues = record { pending = c.reserve.new.self; names = c.reserve-2.new.self; next = Some name } in
    let slash : HasOneSlash name = subst HasOneSlash (sym c.in_ok-name.ensures.name) c.in_ok-name.ensures.slash in
    let room = noted-room c.args.self.now new rows name (c.min-spare.result + 1) (c.args.place + 1) all c.in_ok-reserve.ensures (omega (arith, c.spare.ensures, c.min-spare.ensures)) (omega (arith, long, c.requires.few)) in
    let memory = c.in_ok-reserve-2.ensures.ok in
    let has : HasRoomFor name (queue_names rows) new = record {
      slash = slash;
      queue = room;
      row = noted-row c.args.self.now new rows name (c.min-spare.result + 1) (c.args.place + 1) all c.in_ok-reserve.ensures (omega (arith, long));
      memory = omega (arith, memory);
    } in
    noted-all c.args.self.now new rows name (c.min-spare.result + 1) (c.args.place + 1) all c.in_ok-reserve.ensures c.reserve-2.ensures.items
    (λ n some. subst (λ (n : List ℕ). HasRoomFor n (queue_names rows) new) (same-some name n some) has)
