use Rattle.std.proofs.Common.{ap, sym}
use Rattle.matchit.proofs.OnLiterals.{matchit_on_literals}
use Rattle.route_table.specs.Routes.{segments_of}
use Rattle.route_table.specs.Tokens.{tokens_of}
use Rattle.route_table.proofs.path.PathForm.text.Goals as goal

pub returns-in-Ping-clause-reads : goal.returns-in-Ping-clause-reads
unfolding matchit_on_literals
returns-in-Ping-clause-reads c = ap (λ f. tokens_of (segments_of f)) (sym c.in-Ping.is)

pub returns-in-Task-clause-reads : goal.returns-in-Task-clause-reads
unfolding matchit_on_literals
returns-in-Task-clause-reads c = ap (λ f. tokens_of (segments_of f)) (sym c.in-Task.is)

pub returns-in-Status-clause-reads : goal.returns-in-Status-clause-reads
unfolding matchit_on_literals
returns-in-Status-clause-reads c = ap (λ f. tokens_of (segments_of f)) (sym c.in-Status.is)

pub returns-in-Schedule-clause-reads : goal.returns-in-Schedule-clause-reads
unfolding matchit_on_literals
returns-in-Schedule-clause-reads c = ap (λ f. tokens_of (segments_of f)) (sym c.in-Schedule.is)

pub returns-in-Rerun-clause-reads : goal.returns-in-Rerun-clause-reads
unfolding matchit_on_literals
returns-in-Rerun-clause-reads c = ap (λ f. tokens_of (segments_of f)) (sym c.in-Rerun.is)

pub returns-in-Cancel-clause-reads : goal.returns-in-Cancel-clause-reads
unfolding matchit_on_literals
returns-in-Cancel-clause-reads c = ap (λ f. tokens_of (segments_of f)) (sym c.in-Cancel.is)

pub returns-in-Claim-clause-reads : goal.returns-in-Claim-clause-reads
unfolding matchit_on_literals
returns-in-Claim-clause-reads c = ap (λ f. tokens_of (segments_of f)) (sym c.in-Claim.is)

pub returns-in-ClaimInTwo-clause-reads : goal.returns-in-ClaimInTwo-clause-reads
unfolding matchit_on_literals
returns-in-ClaimInTwo-clause-reads c = ap (λ f. tokens_of (segments_of f)) (sym c.in-ClaimInTwo.is)

pub returns-in-Reclaim-clause-reads : goal.returns-in-Reclaim-clause-reads
unfolding matchit_on_literals
returns-in-Reclaim-clause-reads c = ap (λ f. tokens_of (segments_of f)) (sym c.in-Reclaim.is)

pub returns-in-Completed-clause-reads : goal.returns-in-Completed-clause-reads
unfolding matchit_on_literals
returns-in-Completed-clause-reads c = ap (λ f. tokens_of (segments_of f)) (sym c.in-Completed.is)

pub returns-in-Failed-clause-reads : goal.returns-in-Failed-clause-reads
unfolding matchit_on_literals
returns-in-Failed-clause-reads c = ap (λ f. tokens_of (segments_of f)) (sym c.in-Failed.is)

pub returns-in-Exception-clause-reads : goal.returns-in-Exception-clause-reads
unfolding matchit_on_literals
returns-in-Exception-clause-reads c = ap (λ f. tokens_of (segments_of f)) (sym c.in-Exception.is)

pub returns-in-Group-clause-reads : goal.returns-in-Group-clause-reads
unfolding matchit_on_literals
returns-in-Group-clause-reads c = ap (λ f. tokens_of (segments_of f)) (sym c.in-Group.is)

pub returns-in-Dependents-clause-reads : goal.returns-in-Dependents-clause-reads
unfolding matchit_on_literals
returns-in-Dependents-clause-reads c = ap (λ f. tokens_of (segments_of f)) (sym c.in-Dependents.is)

pub returns-in-Pending-clause-reads : goal.returns-in-Pending-clause-reads
unfolding matchit_on_literals
returns-in-Pending-clause-reads c = ap (λ f. tokens_of (segments_of f)) (sym c.in-Pending.is)

pub returns-in-PendingInTwo-clause-reads : goal.returns-in-PendingInTwo-clause-reads
unfolding matchit_on_literals
returns-in-PendingInTwo-clause-reads c = ap (λ f. tokens_of (segments_of f)) (sym c.in-PendingInTwo.is)

pub returns-in-Trigger-clause-reads : goal.returns-in-Trigger-clause-reads
unfolding matchit_on_literals
returns-in-Trigger-clause-reads c = ap (λ f. tokens_of (segments_of f)) (sym c.in-Trigger.is)
