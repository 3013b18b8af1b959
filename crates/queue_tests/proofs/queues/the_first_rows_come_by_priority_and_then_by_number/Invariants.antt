use Rattle.queue_tests.proofs.queues.the_first_rows_come_by_priority_and_then_by_number.Given as goal

abbrev pub ghosts-walk_ten : goal.ghosts-walk_ten
ghosts-walk_ten g a = record { name = a.blank.name; parts = a.blank.parts }
