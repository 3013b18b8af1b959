use Rattle.queue_tests.proofs.queues.each_queue_has_room_of_its_own.Given as goal

abbrev pub ghosts-wait_by_room : goal.ghosts-wait_by_room
ghosts-wait_by_room g a = record { name = a.blank.name; parts = a.blank.parts }
