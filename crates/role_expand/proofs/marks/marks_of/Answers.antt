use Rattle.std.proofs.Common.{◌≡◌, ◌+◌, ◌∙◌, List, ℕ, Some, inl, inr, length, sym, ap, subst, arith}
use Rattle.std.proofs.lemmas.Bool.{cases_lt}
use Rattle.std.proofs.lemmas.List.{length-map}
use Rattle.std.proofs.lemmas.List.Elements.{All-contains}
use Rattle.std.specs.List.{slice_get}
use Rattle.scope_sets.specs.declared.scopes.TheConstants.{LONGEST_SCOPE}
use Rattle.role_expand.specs.Roles.{RoleData, HasRoleForm, role_data, roles_data}
use Rattle.role_expand.specs.Marks.{IsFrontMark, HasTextMarks}
use Rattle.role_expand.proofs.ClosureLemmas.{mapped_at}
use Rattle.role_expand.proofs.PlaceLemmas.{get_mapped}
use Rattle.role_expand.proofs.marks.marks_of.Goals as goal

same_some : {r s : RoleData} → Some r ≡ Some s → r ≡ s
same_some e = cc

pub add_marks-requires : goal.add_marks-requires
add_marks-requires c =
    All-contains (HasRoleForm LONGEST_SCOPE) (roles_data c.args.roles.now) (role_data c.index-roles-place.result) c.requires
    (mapped_at role_data 0 c.args.roles.now c.loop-place.place c.index-roles-place.result (role_data c.index-roles-place.result).id (omega arith) c.index-roles-place.is)

pub loop-place-preserved : goal.loop-place-preserved
loop-place-preserved c =
    let roles : List RoleData = roles_data c.args.roles.now in
    let place : ℕ = c.loop-place.place in
    let mine : slice_get roles place ≡ Some (role_data c.index-roles-place.result) = get_mapped role_data c.args.roles.now place c.index-roles-place.result (omega arith) c.index-roles-place.is in
    let new = c.in_ok-add_marks.ensures in
    let role_is : (i : ℕ) (role : RoleData) → i ≡ place → slice_get roles i ≡ Some role → role_data c.index-roles-place.result ≡ role = λ i role e at. same_some (sym mine ∙ ap (λ (n : ℕ). slice_get roles n) (sym e) ∙ at) in
    record {
      fronts = λ i role low at. (elim (cases_lt i place) [
        | inl before ↦ λ front is. let m = c.loop-place.invariant.fronts i role before at front is in (m.0, new.kept m.0 m.1, m.2, m.3)
        | inr high ↦
            let e : i ≡ place = omega (arith, low, high) in
            subst (λ (n : ℕ). IsFrontMark role n c.add_marks.new.marks.items) (sym e) (subst (λ (r : RoleData). IsFrontMark r place c.add_marks.new.marks.items) (role_is i role e at) new.front)
      ]);
      texts = λ i role low at. (elim (cases_lt i place) [
        | inl before ↦ λ scope front starred there r. let m = c.loop-place.invariant.texts i role before at scope front starred there r in (m.0, new.kept m.0 m.1, m.2)
        | inr high ↦
            let e : i ≡ place = omega (arith, low, high) in
            let behind : length c.args.roles.now + place ≡ length roles + i = omega (arith, e, length-map c.args.roles.now role_data) in
            subst (λ (n : ℕ). HasTextMarks role n c.add_marks.new.marks.items) behind (subst (λ (r : RoleData). HasTextMarks r (length c.args.roles.now + place) c.add_marks.new.marks.items) (role_is i role e at) new.texts)
      ]);
    }

pub returns : goal.returns
returns c =
    let len : length (roles_data c.args.roles.now) ≡ length c.args.roles.now = length-map c.args.roles.now role_data in
    record {
      fronts = λ i role low at. c.loop-place.invariant.fronts i role (omega (arith, low, len)) at;
      texts = λ i role low at. c.loop-place.invariant.texts i role (omega (arith, low, len)) at;
    }
