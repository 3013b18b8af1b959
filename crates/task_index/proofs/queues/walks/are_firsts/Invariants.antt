use Rattle.task_index.proofs.queues.walks.are_firsts.Given as goal

abbrev pub ghosts-are_firsts_counted : goal.ghosts-are_firsts_counted
ghosts-are_firsts_counted a = record { name = a.blank.name; parts = a.blank.parts }
