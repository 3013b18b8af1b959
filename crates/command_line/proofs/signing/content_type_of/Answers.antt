use Rattle.std.proofs.Common.{◌∙◌, ap, List, ℕ, Some, None, codes}
use Rattle.command_line.proofs.MatchLemmas.{value_met}
use Rattle.command_line.proofs.signing.content_type_of.Goals as goal

pub returns-in_ok-from_str-in-Some : goal.returns-in_ok-from_str-in-Some
returns-in_ok-from_str-in-Some c =
    ap (λ (t : List ℕ). Some t) c.in_ok-from_str-in-Some.ensures ∙ value_met c.args.matches.now (codes "type") (Some c.in-Some.found.now) c.in-Some.ensures

pub returns-in-None : goal.returns-in-None
returns-in-None c = value_met c.args.matches.now (codes "type") None c.in-None.ensures
