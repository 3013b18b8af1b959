use Rattle.task_index.proofs.queues.held.hold.Given as goal

abbrev pub ghosts-hold_counted : goal.ghosts-hold_counted
ghosts-hold_counted a = record { name = a.blank.name; parts = a.blank.parts }
