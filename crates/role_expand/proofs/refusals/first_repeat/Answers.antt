use Rattle.std.proofs.Common.{rules, ◌≡◌, ◌≢◌, ◌<◌, ◌∙◌, List, ℕ, Some, arith, subst, sym, length}
use Rattle.std.proofs.lemmas.List.{length-map}
use Rattle.std.proofs.lemmas.Map.Text.{btree_map_updates_text}
use Rattle.std.specs.BTreeMap.{get_by_text}
use Rattle.std.specs.List.{slice_get}
use Rattle.std.specs.String.{string_bytes}
use Rattle.role_expand.specs.Roles.{RoleData, role_data, roles_data}
use Rattle.role_expand.proofs.PlaceLemmas.{get_mapped, AllPairs_more}
use Rattle.role_expand.proofs.RepeatLemmas.{IsPlaceOf, place_more, all_apart}
use Rattle.role_expand.proofs.refusals.first_repeat.Goals as goal

pub returns-in-Some : goal.returns-in-Some
returns-in-Some c =
    let roles : List RoleData = roles_data c.args.roles.now in
    let later : ℕ = c.loop-later.later in
    let h = subst (IsPlaceOf roles later c.as_str.result.now) (sym c.in-Some.ensures.value) (c.loop-later.invariant.1 c.as_str.result.now) in
    record {
      earlier = h.0;
      first = h.1.0;
      second = role_data c.index-roles-later.result;
      at_i = h.1.1;
      at_j = get_mapped role_data c.args.roles.now later c.index-roles-later.result (omega arith) c.index-roles-later.is;
      same = h.1.2 ∙ c.as_str.ensures.value;
      before = c.loop-later.invariant.0;
    }

pub loop-later-preserved : goal.loop-later-preserved
loop-later-preserved c =
    let roles : List RoleData = roles_data c.args.roles.now in
    let later : ℕ = c.loop-later.later in
    let role : RoleData = role_data c.index-roles-later.result in
    let lt : later < length c.args.roles.now = omega arith in
    let at : slice_get roles later ≡ Some role = get_mapped role_data c.args.roles.now later c.index-roles-later.result lt c.index-roles-later.is in
    let none = subst (IsPlaceOf roles later c.as_str.result.now) (sym c.in_default.ensures.value) (c.loop-later.invariant.1 c.as_str.result.now) in
    let copy : string_bytes c.in_ok-clone.field-0 ≡ role.id = search rules in (
      AllPairs_more role_data c.args.roles.now later c.index-roles-later.result lt c.index-roles-later.is (λ p q. p.id ≢ q.id) c.loop-later.invariant.0
          (all_apart roles later role.id (omega (arith, lt, length-map c.args.roles.now role_data)) (λ k r low here e. none k r low here (e ∙ sym c.as_str.ensures.value))),
      λ id. place_more roles later role at id (get_by_text c.loop-later.ids id) (get_by_text c.insert.new.self id)
          (rw copy at (btree_map_updates_text (string_bytes c.in_ok-clone.field-0) c.loop-later.ids c.insert.new.self (Some later) c.in_ok-insert.ensures.updates id)) (c.loop-later.invariant.1 id),
    )
