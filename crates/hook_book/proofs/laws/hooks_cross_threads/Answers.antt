use Rattle.hook_book.proofs.laws.hooks_cross_threads.Goals as goal

pub returns : goal.returns
returns c = record { sent = record { owned = c.sends.ensures.owned; leaving = λ k d w. tt } }
