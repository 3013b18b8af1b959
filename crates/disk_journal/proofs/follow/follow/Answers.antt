use Rattle.std.proofs.Common.{refl, arith, rules}
use Rattle.disk_journal.proofs.FollowLemmas.{goes_on, blank, damaged}
use Rattle.disk_journal.proofs.follow.follow.Goals as goal
use Rattle.disk_journal.proofs.follow.follow.Goals.{else-at-eq0-via-then-at-eq0+else-file-lt6, else-at-eq0-via-else-at-eq0}

pub loop-at-preserved : goal.loop-at-preserved
loop-at-preserved c =
    let open_gate = c.is_open.ensures.0 c.if-is_open.true in
    let some = c.in-Some.ensures.some in
    goes_on c.args.file.now c.loop-at.spans.items c.loop-at.at c.loop-at.invariant c.loop-at-test.true open_gate c.in-Some.size c.behind.result.now _ (record { gate = c.loop-at.at; size = c.in-Some.size }) c.behind.ensures some.0 some.1 some.2 refl refl (search rules)

pub returns-then-file-lt6 : goal.returns-then-file-lt6
returns-then-file-lt6 c =
    let open_gate = c.is_open.ensures.0 c.if-is_open.true in (c.loop-at.invariant, blank c.args.file.now c.loop-at.spans.items c.loop-at.at c.loop-at.invariant c.loop-at-test.true open_gate (omega arith) (omega arith))

pub returns-in-None : goal.returns-in-None
returns-in-None c =
    let open_gate = c.is_open.ensures.0 c.if-is_open.true in
    let none = c.in-None.ensures.none refl in
    elim c.else-at-eq0.branch [
      | else-at-eq0-via-then-at-eq0+else-file-lt6 w ↦ (c.loop-at.invariant, damaged c.args.file.now c.loop-at.spans.items c.loop-at.at c.loop-at.invariant c.loop-at-test.true open_gate c.behind.result.now c.behind.ensures none (λ _. omega arith))
      | else-at-eq0-via-else-at-eq0 w ↦ (c.loop-at.invariant, damaged c.args.file.now c.loop-at.spans.items c.loop-at.at c.loop-at.invariant c.loop-at-test.true open_gate c.behind.result.now c.behind.ensures none (λ zero. absurd (omega arith)))
    ]
