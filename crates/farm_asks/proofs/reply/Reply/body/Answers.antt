use Rattle.std.proofs.Common.{refl}
use Rattle.json.specs.Print.{escape_byte}
use Rattle.farm_asks.proofs.reply.Reply.body.Goals as goal

pub returns-in-OutOfMemory : goal.returns-in-OutOfMemory
unfolding escape_byte
returns-in-OutOfMemory c = rw c.in-OutOfMemory.is refl

pub returns-in-DiskFault : goal.returns-in-DiskFault
unfolding escape_byte
returns-in-DiskFault c = rw c.in-DiskFault.is refl

pub returns-in-Halted : goal.returns-in-Halted
unfolding escape_byte
returns-in-Halted c = rw c.in-Halted.is refl
