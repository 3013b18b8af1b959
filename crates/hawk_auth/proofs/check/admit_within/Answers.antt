use Rattle.std.proofs.Common.{◌≡◌, List, ℕ, ap, sym, ◌∙◌, subst}
use Rattle.std.specs.Prelude.{None}
use Rattle.scope_sets.specs.Expressions.{missing, view}
use Rattle.role_expand.specs.Roles.{RoleData}
use Rattle.hawk_auth.specs.Access.{Expands, IsFirst, UnlessNoMemory, all_scopes}
use Rattle.hawk_auth.specs.Admitted.{within_conditions}
use Rattle.hawk_auth.proofs.AccessLemmas.{unless, holds_all}
use Rattle.hawk_auth.proofs.check.admit_within.Goals as goal

pub returns-in-Ok-None : goal.returns-in-Ok-None
returns-in-Ok-None c =
    let roles : List RoleData = c.args.roles.now in
    let own : List (List ℕ) = c.args.own.now in
    let scopes : List (List ℕ) = c.args.scopes.items in
    let set : List (List ℕ) = c.in-Ok.set in
    let asked : view c.in-Ok-all_of.asked ≡ all_scopes scopes = c.in-Ok-all_of.ensures ∙ ap all_scopes c.deref.ensures.value in
    let none : missing set (all_scopes scopes) ≡ None = ap (missing set) (sym asked) ∙ sym (rw c.in-Ok-None.field-0-is at c.in-Ok-None.ensures) in
    let expanded = subst (λ (start : List (List ℕ)). UnlessNoMemory (Expands roles start) c.expand-in-Ok-None.result) c.deref-in-Ok-None.ensures.value c.expand-in-Ok-None.ensures in
    unless (Expands roles scopes) (IsFirst (within_conditions roles own scopes))
    (holds_all roles own scopes set c.in-Ok.ensures (c.a_closure_is_not_too_many.ensures 10_000 roles own set c.in-Ok.ensures)
    (λ other k. c.the_closure_is_one.ensures 10_000 roles own other set k c.in-Ok.ensures) none)
    c.expand-in-Ok-None.result expanded
