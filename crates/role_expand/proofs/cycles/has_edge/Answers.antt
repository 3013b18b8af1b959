use Rattle.std.proofs.Common.{◌≡◌, ◌++◌, ◌∷◌, [], ◌∙◌, List, ℕ, Some, sym, subst, arith}
use Rattle.std.proofs.lemmas.List.{append_cancel_right}
use Rattle.std.proofs.lemmas.Str.Pattern.{strip_suffix_char, ends_char}
use Rattle.scope_sets.specs.Scopes.{star}
use Rattle.role_expand.specs.Roles.{RoleData, role_data}
use Rattle.role_expand.specs.Cycles.{Reaches}
use Rattle.role_expand.proofs.cycles.has_edge.Goals as goal

pub returns-in-Some : goal.returns-in-Some
returns-in-Some c =
    let to : RoleData = role_data c.args.to.now in
    let front : List ℕ = c.in-Some.front.now in
    let to_is : to.id ≡ front ++ star ∷ [] = rw c.as_str-2.ensures.value at (strip_suffix_char star c.as_str-2.result.now (Some c.in-Some.front) c.in-Some.ensures.cases (omega arith)) in
    let ends = ends_char star c.as_str.result.now c.ends_with.result c.ends_with.ensures.cases (omega arith) in
    let found = rw c.deref.ensures.value at c.one_reaches.ensures in (
      λ t. record {
        starred = rw (← c.as_str.ensures.value) (_, ends.0 c.if-not-ends_with.false);
        front = front;
        to_is = to_is;
        scope = (found.0 t).0;
        listed = (found.0 t).1;
        reaches = (found.0 t).2;
      },
      λ e. found.1 (e.scope, e.listed, subst (λ (f : List ℕ). Reaches e.scope f) (append_cancel_right e.front front (star ∷ []) (sym e.to_is ∙ to_is)) e.reaches),
    )
