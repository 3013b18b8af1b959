use Rattle.std.proofs.Common.{◌≡◌, ℕ, ◌∷◌, [], List, arith, sym, ap, ◌∙◌, subst, inl, inr, Some}
use Rattle.std.proofs.lemmas.Bool.{cases_lt}
use Rattle.role_expand.specs.Index.{text_of, HasKey}
use Rattle.role_expand.specs.declared.index.RoleKey.{RoleKey}
use Rattle.std.proofs.lemmas.List.{length-map}
use Rattle.std.proofs.lemmas.Option.{slice_get_within}
use Rattle.std.proofs.lemmas.List.Elements.{Contains-append_left, Contains-push}
use Rattle.std.specs.List.{slice_get}
use Rattle.role_expand.specs.Roles.{RoleData, role_data, roles_data}
use Rattle.role_expand.proofs.PlaceLemmas.{get_mapped}
use Rattle.role_expand.proofs.index.keys_of.Goals as goal

same_some : {r s : RoleData} → Some r ≡ Some s → r ≡ s
same_some e = cc

pub loop-place-preserved : goal.loop-place-preserved
loop-place-preserved c = λ i role low at.
    let keys : List RoleKey = c.loop-place.keys.items in
    let key : RoleKey = record { text = c.in_ok-text.text; place = c.loop-place.place } in
    rw c.in_ok-push.ensures.items
    (elim (cases_lt i c.loop-place.place) [
      | inl before ↦ let h = c.loop-place.invariant i role before at in (h.0, Contains-append_left keys (key ∷ []) h.0 h.1, h.2, h.3)
      | inr high ↦
          let same : i ≡ c.loop-place.place = omega arith in
          let mine : slice_get (roles_data c.args.roles.now) c.loop-place.place ≡ Some (role_data c.index-roles-place.result) =
          get_mapped role_data c.args.roles.now c.loop-place.place c.index-roles-place.result (omega arith) c.index-roles-place.is in
          let one : role ≡ role_data c.index-roles-place.result = same_some (sym at ∙ ap (λ (n : ℕ). slice_get (roles_data c.args.roles.now) n) same ∙ mine) in
          let id : c.as_str.result.now ≡ role.id = c.as_str.ensures.value ∙ sym (ap (λ (r : RoleData). r.id) one) in
          let text : c.key_text.result.now ≡ text_of key = sym c.in_ok-text.ensures.ok in
          (key, Contains-push keys key, sym same, subst (λ (t : List ℕ). HasKey role.id t) text (subst (λ (t : List ℕ). HasKey t c.key_text.result.now) id c.key_text.ensures))
    ])

pub returns : goal.returns
returns c = λ i role at. c.loop-place.invariant i role (omega (arith, slice_get_within (roles_data c.args.roles.now) i role at, length-map c.args.roles.now role_data)) at
