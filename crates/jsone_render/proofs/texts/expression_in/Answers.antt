use Rattle.std.proofs.Common.{◌≡◌, ◌++◌, ◌∷◌, ℕ, List, Option, Global, subst}
use Rattle.std.specs.Bool.{MatchBool}
use Rattle.std.specs.Option.{IfSome}
use Rattle.std.specs.declared.rc.Rc.{Rc}
use Rattle.jsone_render.specs.Expressions.{HasTree}
use Rattle.jsone_render.proofs.CutLemmas.{stands_there, stands_before}
use Rattle.jsone_render.proofs.texts.expression_in.Goals as goal

pub returns-in-Some : goal.returns-in-Some
returns-in-Some c =
    let found = subst (λ (o : Option (Rc (List ℕ) Global)). IfSome o (λ r. HasTree r.value × ((rest : List ℕ) × (c.args.behind.now ≡ r.value ++ 125 ∷ rest)))) c.in-Some.is c.in_ok-reading.ensures in
    stands_there c.args.behind.now c.in-Some.reading.value found.1.0 found.0 found.1.1

pub returns-then-has_tree : goal.returns-then-has_tree
returns-then-has_tree c =
    stands_before c.args.behind.now c.in_ok-reading-2.reading.value c.in-Some-only_end.end c.has_tree.result c.in-Some-only_end.ensures c.in_ok-reading-2.ensures c.if-has_tree.true
    (subst (λ (e : List ℕ). MatchBool c.has_tree.result (HasTree e) (¬ HasTree e)) c.deref.ensures c.has_tree.ensures)
