use Rattle.queue_tests.proofs.queues.the_last_added_rises_to_the_top.Given as goal

abbrev pub ghosts-rise_to_the_top : goal.ghosts-rise_to_the_top
ghosts-rise_to_the_top g a = record { name = a.blank.name; parts = a.blank.parts }
