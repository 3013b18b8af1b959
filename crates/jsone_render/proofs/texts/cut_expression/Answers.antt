use Rattle.std.proofs.Common.{◌+◌, ℕ, List, Option, Global, length, drop, subst, ap, ◌∙◌}
use Rattle.std.specs.Option.{MatchOption}
use Rattle.std.specs.declared.rc.Rc.{Rc}
use Rattle.jsone_render.specs.Answers.{StandsIn}
use Rattle.jsone_render.specs.Texts.{NoneEnds}
use Rattle.jsone_render.proofs.CutLemmas.{behind_curly, left_there}
use Rattle.jsone_render.proofs.texts.cut_expression.Goals as goal

pub range_from-requires : goal.range_from-requires
range_from-requires c =
    let bytes = c.as_bytes.result.now in
    let found = subst (λ (o : Option (Rc (List ℕ) Global)). MatchOption o (NoneEnds bytes) (λ r. StandsIn bytes r.value)) c.in-Some.is c.in_ok-reading.ensures in
    let stands = subst (λ (b : List ℕ). StandsIn b c.in-Some.reading.value) c.as_bytes.ensures.value found in
    λ _. behind_curly c.args.behind.now c.in-Some.reading.value c.len-end.result c.utf8.behind stands (c.len-end.ensures ∙ ap (λ (e : List ℕ). length e) c.deref.ensures)

pub returns-in-Some : goal.returns-in-Some
returns-in-Some c =
    let bytes = c.as_bytes.result.now in
    let found = subst (λ (o : Option (Rc (List ℕ) Global)). MatchOption o (NoneEnds bytes) (λ r. StandsIn bytes r.value)) c.in-Some.is c.in_ok-reading.ensures in
    let stands = subst (λ (b : List ℕ). StandsIn b c.in-Some.reading.value) c.as_bytes.ensures.value found in
    left_there c.args.behind.now c.in-Some.reading.value c.range_from.result.now stands
    (c.range_from.ensures.value ∙ ap (λ (n : ℕ). drop (n + 1) c.args.behind.now) (c.len-end.ensures ∙ ap (λ (e : List ℕ). length e) c.deref.ensures))
