-- After a merge the caller has not yet seen the history as it is.
use Rattle.std.proofs.Common.{ap, subst}
use Rattle.shared_desk.specs.Rule.{HasLearned}
use Rattle.shared_desk.proofs.steps.take_in.Goals as goal

pub learn-requires-clause-merged : goal.learn-requires-clause-merged
learn-requires-clause-merged g c =
    let is = c.merge.ensures.merged in
    (ap (λ m. m.1) is, (c.args.other.me.0.seen, ap (λ m. m.0.stage) is))

pub returns-clause-learned : goal.returns-clause-learned
returns-clause-learned g c =
    subst (λ m. HasLearned g.O.Law.Machine.rules g.O.Object.state m c.learn.new.seat.me) c.merge.ensures.merged c.learn.ensures.learned
