use Rattle.std.proofs.Common.{[], sym, append-nil}
use Rattle.farm_text.proofs.date_time.whole_shift.Goals as goal

pub returns-in_err-minutes-clause-only : goal.returns-in_err-minutes-clause-only
returns-in_err-minutes-clause-only c = λ minutes is. absurd (c.in_err-minutes.ensures.only minutes c.args.text.now [] is (sym (append-nil _)))
