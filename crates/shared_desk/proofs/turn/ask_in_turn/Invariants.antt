-- what was asked, and what was answered
use Rattle.std.proofs.Common.{◌≡◌}
use Rattle.shared_desk.proofs.turn.ask_in_turn.Given as goal

abbrev pub ghosts-raise : goal.ghosts-raise
ghosts-raise g a = record { asked = λ question answer. (question ≡ a._question.now.value) × (answer ≡ a._answer.now) }
