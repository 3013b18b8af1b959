use Rattle.std.proofs.Common.{All, sym, subst}
use Rattle.scope_sets.specs.Scopes.{IsPrintable}
use Rattle.call_rules.proofs.PolicyLemmas.{joined_printable, three_pieces}
use Rattle.call_rules.proofs.scopes.joined.Goals as goal

pub returns-clause-name : goal.returns-clause-name
returns-clause-name c = three_pieces c.args.front.now c.args.rest.now _ _ _ c.in_ok-text.ensures.ok c.in_ok-push_str.ensures.bytes c.in_ok-push_str-2.ensures.bytes

pub returns-clause-printable : goal.returns-clause-printable
returns-clause-printable c =
    subst (All IsPrintable) (sym (returns-clause-name c)) (joined_printable c.args.front.now c.args.rest.now c.requires.front c.requires.rest)
