use Rattle.farm_bulk.proofs.LoadLemmas.{left_claims, Works-ends, Works-goes}
use Rattle.farm_bulk.proofs.load.work.Goals as goal

pub returns-in-None : goal.returns-in-None
returns-in-None c =
    let talk = c.in_ok-run.ensures.claimed in
    c.claims.invariant.1 c.claim_after.new.desk.0 (Works-ends c.claims.desk.0 c.claim_after.new.desk.0 c.claims.generator _ _ talk.0 c.in_ok-run.field-0 c.as_str.ensures.value talk.1 talk.2 c.in-None.is)

pub claims-preserved : goal.claims-preserved
claims-preserved c =
    let talk = c.in_ok-run.ensures.claimed in (
      left_claims c.args.most c.claims.counter c.claims.desk.1 c.claim_after.new.desk.1 c.claims-test.true c.claims.invariant.0 c.claim_after.ensures.spare,
      λ after rest. c.claims.invariant.1 after (Works-goes c.claims.desk.0 c.claim_after.new.desk.0 after c.claims.generator c.draw.new.self c.draw.result _ _ talk.0 _ c.in_ok-run.field-0 c.in-Some.run' c.as_str.ensures.value talk.1 talk.2 c.in-Some.is c.draw.ensures.number c.draw.ensures.drawn c.in_ok-text-in-Some.ensures rest),
    )
