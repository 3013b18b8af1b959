use Rattle.std.proofs.Common.{◌≡◌, ℕ, zero, suc, ◌+◌, ◌*◌, ◌<◌, ◌≤◌, ◌^◌, ap, ◌∙◌, subst, arith}
use Rattle.std.proofs.lemmas.Nat.{pow_below}
use Rattle.claim_queue.specs.Held.{held}
use Rattle.claim_queue.specs.Dues.{Dues, roomier}
use Rattle.claim_queue.specs.Counts.{AreAtMost, AreFew}
use Rattle.queue_tests.proofs.queues.add_to_none.Goals as goal

-- few steps among no entries are none
none-few : (old new : ℕ) → AreFew 0 old new → new ≡ old
none-few old new few = by few.0 few.1 few.2 where
  by : (levels : ℕ) → 2 ^ levels ≤ 2 * 0 + 1 → AreAtMost (3 * levels) old new → new ≡ old
  by zero le most = let a = most.0 in let b = most.1 in omega arith
  by (suc levels) le most = let more : 2 ^ 0 < 2 ^ suc levels = pow_below 0 (suc levels) (omega arith) in absurd (omega arith)

pub returns : goal.returns
returns g c =
    let reserved = c.in_ok-reserve.ensures ∙ ap (roomier 1 1) c.new-leases.ensures in
    let few = subst (λ (d : Dues). AreFew (held d.rows) c.args.steps.now c.add.new.steps) reserved c.add.ensures.steps in
    none-few c.args.steps.now c.add.new.steps few
