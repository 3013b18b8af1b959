use Rattle.queue_tests.proofs.queues.the_first_due_is_the_earliest_and_of_these_the_least_row.Given as goal

abbrev pub ghosts-ask_first_due : goal.ghosts-ask_first_due
ghosts-ask_first_due g a = record { name = a.blank.name; parts = a.blank.parts }
