use Rattle.clap.specs.Words.{found_of, rows_of}
use Rattle.command_line.proofs.LoadLemmas.{off_seed, off_tasks, both_formed}
use Rattle.command_line.proofs.SigningLemmas.{refuses}
use Rattle.command_line.proofs.load.read_load.Goals as goal

pub returns-in_default : goal.returns-in_default
returns-in_default c = refuses _ _ (off_seed (rows_of (found_of c.args.matches.now)) c.value.result.now c.value.ensures c.in_default.ensures)

pub returns-in_default-tasks_of : goal.returns-in_default-tasks_of
returns-in_default-tasks_of c =
    refuses _ _ (off_tasks (rows_of (found_of c.args.matches.now)) c.value-2.result.now c.value-2.ensures c.in_default-tasks_of.ensures)

pub returns : goal.returns
returns c =
    both_formed (rows_of (found_of c.args.matches.now)) c.value.result.now c.value-2.result.now c.in-Some.seed c.in-Some-tasks_of.tasks c.value.ensures c.value-2.ensures
    c.in-Some.ensures.0 c.in-Some.ensures.1 c.in-Some-tasks_of.ensures.0 c.in-Some-tasks_of.ensures.1
