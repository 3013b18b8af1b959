use Rattle.std.proofs.Common.{List, ℕ, [], ◌∷◌, ap, ◌∙◌, subst}
use Rattle.std.proofs.lemmas.List.{append-nil}
use Rattle.hawk_auth.specs.Access.{Expands, UnlessNoMemory}
use Rattle.hawk_auth.proofs.check.check_anonymous.Goals as goal

pub returns-in-Ok : goal.returns-in-Ok
returns-in-Ok c =
    subst (λ (start : List (List ℕ)). UnlessNoMemory (Expands c.args.roles.now start) c.expand.result) (ap (λ (s : List ℕ). s ∷ []) (c.in-Ok.ensures ∙ append-nil _)) c.expand.ensures
