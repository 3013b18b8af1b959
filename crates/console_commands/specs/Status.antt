-- The numbers of the statuses.
use Rattle.std.specs.Prelude.{ℕ, List, [], codes}
use Rattle.console_commands.specs.declared.status.Status.{Status}
use Rattle.console_commands.specs.declared.status.Status.TheVariants.{Done, Usage, FarmFile, Input, Opening, Disk, Door, Read, Write, NoMemory, Wire, Damaged}

-- the status by which a process ends
abbrev pub code_of : Status → ℕ
code_of Done = 0
code_of Usage = 2
code_of FarmFile = 3
code_of Input = 3
code_of Opening = 4
code_of Disk = 4
code_of Door = 4
code_of Read = 5
code_of Write = 6
code_of NoMemory = 7
code_of Wire = 8
code_of Damaged = 9

-- how the line begins that notes are told of a run which ended so
abbrev pub front_of : Status → List ℕ
front_of Done = []
front_of Usage = []
front_of FarmFile = codes "the farm file is refused"
front_of Input = codes "the input is refused"
front_of Opening = codes "the farm file cannot be opened"
front_of Disk = codes "the disk failed"
front_of Door = codes "the listener failed"
front_of Read = codes "a read failed"
front_of Write = codes "a write failed"
front_of NoMemory = codes "memory ran out"
front_of Wire = codes "the input is refused"
front_of Damaged = codes "the disk is damaged"

-- the line where there is no more to say
abbrev pub line_of : Status → List ℕ
line_of Done = []
line_of Usage = codes "the words ask for nothing that this program does\n"
line_of FarmFile = codes "the farm file is refused\n"
line_of Input = codes "the input is refused\n"
line_of Opening = codes "the farm file cannot be opened\n"
line_of Disk = codes "the disk failed\n"
line_of Door = codes "the listener failed\n"
line_of Read = codes "a read failed\n"
line_of Write = codes "a write failed\n"
line_of NoMemory = codes "memory ran out\n"
line_of Wire = codes "the input is refused: it is no request, or ends inside one\n"
line_of Damaged = codes "the disk is damaged\n"
