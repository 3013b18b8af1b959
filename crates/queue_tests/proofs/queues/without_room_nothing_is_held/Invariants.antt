use Rattle.queue_tests.proofs.queues.without_room_nothing_is_held.Given as goal

abbrev pub ghosts-hold_by_room : goal.ghosts-hold_by_room
ghosts-hold_by_room g a = record { name = a.blank.name; parts = a.blank.parts }
