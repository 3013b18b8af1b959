use Rattle.std.proofs.Common.{◌≡◌, List, ℕ, ◌∷◌, ◌++◌, length, [], subst, arith, rules, sym, ap, ◌∙◌}
use Rattle.std.proofs.lemmas.List.{nil_from_length}
use Rattle.scope_lines.specs.Lines.{IsScope}
use Rattle.scope_lines.proofs.LineLemmas.{HasRead, HasRead-more, SaysScopes-read, RefusesLines-read}
use Rattle.scope_lines.proofs.lines.read_scopes.Goals as goal

pub returns-in-None : goal.returns-in-None
returns-in-None c =
    let bad : ¬ IsScope c.cut_line.result.0.now = rw c.in-None.is at c.in_ok-scope.ensures in
    RefusesLines-read c.args.text.now c.lines.rest.now c.lines.scopes.items c.lines.invariant c.cut_line.result.0.now c.cut_line.result.1.now c.cut_line.ensures c.len.result (search rules) bad

pub lines-preserved : goal.lines-preserved
lines-preserved c =
    let read = rw c.in-Some.is at c.in_ok-scope.ensures in
    let line : List ℕ = c.cut_line.result.0.now in
    let items : c.add.new.scopes.items ≡ c.lines.scopes.items ++ line ∷ [] = c.in_ok-add-in-Some.ensures ∙ ap (λ (s : List ℕ). c.lines.scopes.items ++ s ∷ []) read.0 in
    let more = HasRead-more c.args.text.now c.lines.rest.now c.lines.scopes.items c.lines.invariant line c.cut_line.result.1.now c.cut_line.ensures read.1 in
    subst (λ (t : List (List ℕ)). HasRead c.args.text.now c.cut_line.result.1.now t) (sym items) more

pub returns : goal.returns
returns c =
    let none : length c.lines.rest.now ≡ 0 = grind arith in
    SaysScopes-read c.args.text.now c.lines.rest.now c.lines.scopes.items c.lines.invariant (nil_from_length c.lines.rest.now none)
