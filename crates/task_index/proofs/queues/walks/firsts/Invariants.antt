use Rattle.task_index.proofs.queues.walks.firsts.Given as goal

abbrev pub ghosts-firsts_counted : goal.ghosts-firsts_counted
ghosts-firsts_counted a = record { name = a.blank.name; parts = a.blank.parts }
