use Rattle.task_index.proofs.dues.first_of.Given as goal

abbrev pub ghosts-first_counted : goal.ghosts-first_counted
ghosts-first_counted a = record { name = a.blank.name; parts = a.blank.parts }
