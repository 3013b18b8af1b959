use Rattle.std.proofs.Common.{ap, sym, ◌∙◌, arith}
use Rattle.task_index.specs.Plans.{room_for}
use Rattle.task_index.proofs.RoomLemmas.{room-0, room-8, room-64, room-512, room-4096, room-32768, room-262144, room-most}
use Rattle.task_index.proofs.room.room_for.Goals as goal

pub returns-in-0 : goal.returns-in-0
returns-in-0 c = sym (ap room_for c.in-0.is ∙ room-0)

pub returns-in-1-to-8 : goal.returns-in-1-to-8
returns-in-1-to-8 c = room-8 c.args.stand (omega arith) (omega arith)

pub returns-in-9-to-64 : goal.returns-in-9-to-64
returns-in-9-to-64 c = room-64 c.args.stand (omega arith) (omega arith)

pub returns-in-65-to-512 : goal.returns-in-65-to-512
returns-in-65-to-512 c = room-512 c.args.stand (omega arith) (omega arith)

pub returns-in-513-to-4096 : goal.returns-in-513-to-4096
returns-in-513-to-4096 c = room-4096 c.args.stand (omega arith) (omega arith)

pub returns-in-4097-to-32768 : goal.returns-in-4097-to-32768
returns-in-4097-to-32768 c = room-32768 c.args.stand (omega arith) (omega arith)

pub returns-in-32769-to-262144 : goal.returns-in-32769-to-262144
returns-in-32769-to-262144 c = room-262144 c.args.stand (omega arith) (omega arith)

pub returns-in_default : goal.returns-in_default
returns-in_default c = room-most c.args.stand (omega arith)
