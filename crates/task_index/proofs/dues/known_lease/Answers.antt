use Rattle.std.proofs.Common.{◌≡◌, ℕ, Option, IfSome, ap, sym, ◌∙◌, subst}
use Rattle.std.specs.List.{position}
use Rattle.run_states.specs.Rows.{loses_claim}
use Rattle.task_index.specs.declared.dues.Dues.{Dues}
use Rattle.task_index.specs.Dated.{MayBeDue, place_at}
use Rattle.task_index.proofs.FirstLemmas.{lease-told}
use Rattle.task_index.proofs.dues.known_lease.Goals as goal

pub returns-in-Some : goal.returns-in-Some
returns-in-Some c =
    λ rows held. subst (λ (told : Option (Option ℕ)). IfSome told (λ place. place ≡ position (loses_claim c.args.at) rows)) (sym (c.place_at.ensures ∙ ap (place_at c.args.at) c.first_of.ensures))
    (lease-told c.in-Some.dues rows c.args.at (subst (λ (dues : Option Dues). MayBeDue dues rows) c.in-Some.is held))
