use Rattle.std.proofs.Common.{◌≡◌, ℕ, List, Some, true, false, ◌++◌, ◌∷◌, [], not, cond, ap, sym, ◌∙◌}
use Rattle.task_index.specs.declared.queues.Queues.{Queues}
use Rattle.task_index.specs.Queues.{name_of}
use Rattle.task_index.proofs.QueueRoomLemmas.{may-hold}
use Rattle.task_index.proofs.QueueNoteLemmas.{added-all, has-room}
use Rattle.task_index.proofs.queues.Queues.add.Goals as goal

pub hold-requires-clause-within : goal.hold-requires-clause-within
hold-requires-clause-within c =
    let may = c.may_add.ensures.0 c.if-not-may_add.false in
    (may-hold c.args.self.now.pending c.args.place c.in-Some.name may.free may.room).0

pub hold-requires-clause-room : goal.hold-requires-clause-room
hold-requires-clause-room c =
    let may = c.may_add.ensures.0 c.if-not-may_add.false in
    (may-hold c.args.self.now.pending c.args.place c.in-Some.name may.free may.room).1

same-some : (a b : List ℕ) → Some a ≡ Some b → a ≡ b
same-some a b is = cc

pub returns-then-not-may_add-clause-noted : goal.returns-then-not-may_add-clause-noted
returns-then-not-may_add-clause-noted c = λ rows long all noted.
    let next = sym c.take.ensures.value ∙ c.in-Some.is in
    let has = has-room c.args.self.now rows c.in-Some.name c.args.place all next long in
    let named = same-some c.in-Some.name (name_of c.args.row.now.definition.queue) (sym next ∙ noted) in
    let yes_ = c.may_add.ensures.1 (record { named = named; memory = has.2; free = has.0; room = has.1 }) in
    let both : true ≡ false = sym yes_ ∙ c.if-not-may_add.true in
    absurd (cc)

pub returns-clause-added : goal.returns-clause-added
returns-clause-added c = λ rows long all yes_.
    let may = c.may_add.ensures.0 c.if-not-may_add.false in
    let within = (may-hold c.args.self.now.pending c.args.place c.in-Some.name may.free may.room).0 in
    let new : Queues = record { pending = c.hold.new.pending; names = c.push.new.self; next = c.take.new.self } in
    let pushed = c.push.ensures.items ∙ ap (λ t. cond t (c.args.self.now.names.items ++ c.in-Some.name ∷ []) c.args.self.now.names.items) (c.is_err.ensures.negation ∙ ap not c.if-is_err.false) in
    added-all c.args.self.now new rows c.args.row.now c.in-Some.name all (sym c.take.ensures.value ∙ c.in-Some.is) may.named c.args.place long within c.hold.ensures pushed c.take.ensures.after
