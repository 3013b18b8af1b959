use Rattle.std.proofs.Common.{Some, None, inr}
use Rattle.std.proofs.lemmas.Str.Pattern.{split_text_parts}
use Rattle.std.proofs.lemmas.Result.{MatchResult-weaker}
use Rattle.role_expand.specs.Roles.{hole, SplitsAtHole}
use Rattle.role_expand.proofs.FillLemmas.{filled_printable, fills_with}
use Rattle.scope_sets.specs.Scopes.{IsPrintable}
use Rattle.role_expand.proofs.expansion.fill.Goals as goal

pub from_printable-requires : goal.from_printable-requires
from_printable-requires c =
    let cut : SplitsAtHole c.args.scope.now c.in-Some.before.now c.in-Some.after.now = rw (← c.as_str.ensures.value) (split_text_parts hole c.as_str.result.now (Some (c.in-Some.before, c.in-Some.after)) c.in-Some.ensures.cases) in
    rw (c.in_ok-push_str-in-Some-2.ensures.bytes, c.in_ok-push_str-in-Some.ensures.bytes, c.in_ok-text-in-Some.ensures.ok)
    (filled_printable IsPrintable c.args.parameter.now c.args.scope.now c.in-Some.before.now c.in-Some.after.now c.kept_after.result.now c.as_str.ensures.printable c.requires cut c.kept_after.ensures)

pub returns-in-None : goal.returns-in-None
returns-in-None c =
    let none = split_text_parts hole c.as_str.result.now None c.in-None.ensures.cases in
    MatchResult-weaker _ c.clone.ensures.cases (λ t e. inr (rw c.as_str.ensures.value at none, e)) (λ _ _. tt)

pub returns-in_ok-push_str-in-Some-2 : goal.returns-in_ok-push_str-in-Some-2
returns-in_ok-push_str-in-Some-2 c =
    let cut : SplitsAtHole c.args.scope.now c.in-Some.before.now c.in-Some.after.now = rw (← c.as_str.ensures.value) (split_text_parts hole c.as_str.result.now (Some (c.in-Some.before, c.in-Some.after)) c.in-Some.ensures.cases) in
    rw (c.from_printable.ensures, c.in_ok-push_str-in-Some-2.ensures.bytes, c.in_ok-push_str-in-Some.ensures.bytes, c.in_ok-text-in-Some.ensures.ok)
    (fills_with c.args.parameter.now c.args.scope.now c.in-Some.before.now c.in-Some.after.now c.kept_after.result.now cut c.kept_after.ensures)
