use Rattle.queue_tests.proofs.queues.the_best_is_of_the_first_priority_and_then_the_least_number.Given as goal

abbrev pub ghosts-take_best : goal.ghosts-take_best
ghosts-take_best g a = record { name = a.blank.name; parts = a.blank.parts }
