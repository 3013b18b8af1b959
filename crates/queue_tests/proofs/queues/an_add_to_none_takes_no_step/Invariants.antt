use Rattle.queue_tests.proofs.queues.an_add_to_none_takes_no_step.Given as goal

abbrev pub ghosts-count_first : goal.ghosts-count_first
ghosts-count_first a = record { name = a.blank.name; parts = a.blank.parts }
