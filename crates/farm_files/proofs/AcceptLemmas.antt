-- The roles of a configuration that a file says are a set of roles.
use Rattle.std.proofs.Common.{◌≡◌, ℕ, ◌<◌, ◌≤◌, Bool, true, false, inl, inr, List, [], ◌∷◌, length, get_or, take, map, Option, Some, refl, sym, ap, ◌∙◌, subst, arith}
use Rattle.std.specs.Prelude.{codes, All, AllPairs, slice_get, ◌≢◌}
use Rattle.std.specs.Str.{bytes_eq}
use Rattle.std.proofs.lemmas.Bool.{false≢true, cases_lt}
use Rattle.std.proofs.lemmas.List.{length-map, length-take, take-map, get_or-take}
use Rattle.std.proofs.lemmas.Option.{slice_get-get_or, get_or_from_slice_get}
use Rattle.std.proofs.lemmas.Slice.Eq.{bytes_eq-Decides}
use Rattle.scope_sets.specs.Scopes.{IsPrintable, HasHandedInForm}
use Rattle.role_expand.specs.Roles.{RoleData, HasHoleForm, HasIdForm, HasRoleForm}
use Rattle.role_expand.specs.Cycles.{IsCycle, IsAccepted}
use Rattle.toml.specs.Data.{Data, get_member}
use Rattle.farm_asks.specs.declared.config.Config.{Config}
use Rattle.farm_files.specs.declared.fault.Table.TheVariants.{Role}
use Rattle.farm_files.specs.declared.fault.Rule.{Rule}
use Rattle.farm_files.specs.declared.fault.Rule.TheVariants.{ParameterCycle}
use Rattle.farm_files.specs.Faults.{fault_at}
use Rattle.farm_files.specs.Roles.{RoleBreaks, LiesOnCycle, role_rows, roles_in}
use Rattle.farm_files.specs.Rows.{RowAtBreaks, rows_in, says_of}
use Rattle.farm_files.specs.Farms.{Says}
use Rattle.farm_files.proofs.FarmLemmas.{row_form, row_apart, rows_sound, said_at}

-- ---- what cannot fail holds, for the form of a role

from_test : (test : Bool) (P : Type 0) → (test ≡ true → P) → (P → test ≡ true) → ¬ (¬ P) → P
from_test true P to from never = to refl
from_test false P to from never = absurd (never (λ p. false≢true (from p)))

stable_le : (a b : ℕ) → ¬ (¬ (a ≤ b)) → a ≤ b
stable_le a b never = elim (cases_lt b a) [ inl lt ↦ absurd (never (λ le. absurd (omega arith))) | inr le ↦ le ]

stable_text : (a b : List ℕ) → ¬ (¬ (a ≡ b)) → a ≡ b
stable_text a b never = from_test (bytes_eq a b) (a ≡ b) (λ e. (bytes_eq-Decides a b).0 e) (λ e. (bytes_eq-Decides a b).1 e) never

stable_all : {X : Type 0} (P : X → Type 0) → ((x : X) → ¬ (¬ P x) → P x) → (xs : List X) → ¬ (¬ All P xs) → All P xs
stable_all P stable xs never = λ k d lt. stable (get_or xs k d) (λ no. never (λ all. no (all k d lt)))

stable_printable : (b : ℕ) → ¬ (¬ IsPrintable b) → IsPrintable b
stable_printable b never = (stable_le 32 b (λ no. never (λ p. no p.0)), stable_le b 126 (λ no. never (λ p. no p.1)))

stable_handed_in : (longest : ℕ) (s : List ℕ) → ¬ (¬ HasHandedInForm longest s) → HasHandedInForm longest s
stable_handed_in longest s never = record {
  short = stable_le (length s) longest (λ no. never (λ form. no form.short));
  plain = λ ends. never (λ form. form.plain ends);
}

stable_hole : (s : List ℕ) → ¬ (¬ HasHoleForm s) → HasHoleForm s
stable_hole s never = record {
  once = λ before after before' after' p q. stable_text before before' (λ no. never (λ form. no (form.once before after before' after' p q)));
  free = λ before after p ends. never (λ form. form.free before after p ends);
}

stable_id : (longest : ℕ) (id : List ℕ) → ¬ (¬ HasIdForm longest id) → HasIdForm longest id
stable_id longest id never = record {
  some = let le : 1 ≤ length id = stable_le 1 (length id) (λ no. never (λ form. no (omega (arith, form.some)))) in omega arith;
  short = stable_le (length id) longest (λ no. never (λ form. no form.short));
  printable = stable_all IsPrintable stable_printable id (λ no. never (λ form. no form.printable));
}

stable_role : (longest : ℕ) (role : RoleData) → ¬ (¬ HasRoleForm longest role) → HasRoleForm longest role
stable_role longest role never = record {
  id_form = stable_id longest role.id (λ no. never (λ form. no form.id_form));
  scopes_form = stable_all (HasHandedInForm longest) (stable_handed_in longest) role.scopes (λ no. never (λ form. no form.scopes_form));
  holes_form = λ ends. stable_all HasHoleForm stable_hole role.scopes (λ no. never (λ form. no (form.holes_form ends)));
}

-- ---- the roles of sound rows

module _ (xs : List Data) (sound : (row : ℕ) (rule : Rule) → ¬ RowAtBreaks role_rows xs row rule) where
  list_formed : All (HasRoleForm 4096) (map (says_of role_rows) xs)
  list_formed k d lt =
      let at = said_at role_rows xs k (get_or (map (says_of role_rows) xs) k d) (slice_get-get_or (map (says_of role_rows) xs) k d lt) in
      stable_role 4096 (get_or (map (says_of role_rows) xs) k d)
      (λ no. row_form role_rows (map (says_of role_rows) (take k xs)) k at.0 (λ rule b. sound k rule (at.0, at.1, b)) (λ form. no (subst (λ (r : RoleData). HasRoleForm 4096 r) at.2 form.form.form)))

  list_distinct : AllPairs (λ p q. p.id ≢ q.id) (map (says_of role_rows) xs)
  list_distinct i j d lt within same =
      let first = get_or (map (says_of role_rows) xs) i d in
      let at = said_at role_rows xs j (get_or (map (says_of role_rows) xs) j d) (slice_get-get_or (map (says_of role_rows) xs) j d within) in
      let at_i : slice_get (map (says_of role_rows) xs) i ≡ Some first = slice_get-get_or (map (says_of role_rows) xs) i d (omega arith) in
      let long : i < length (map (says_of role_rows) (take j xs)) = omega (arith, length-map (take j xs) (says_of role_rows), length-map xs (says_of role_rows), length-take {A = Data}) in
      let here : get_or (map (says_of role_rows) (take j xs)) i first ≡ first =
      ap (λ (rs : List RoleData). get_or rs i first) (sym (take-map (says_of role_rows) j xs))
      ∙ get_or-take j (map (says_of role_rows) xs) i first lt
      ∙ get_or_from_slice_get (map (says_of role_rows) xs) i first first at_i in
      row_apart role_rows (map (says_of role_rows) (take j xs)) j at.0 (λ rule b. sound j rule (at.0, at.1, b)) (i, first, long, here, same ∙ ap (λ (r : RoleData). r.id) (sym at.2))

no_cycle : (roles : List RoleData) → ((row : ℕ) → ¬ LiesOnCycle roles row) → (cycle : List ℕ) → ¬ IsCycle roles cycle
no_cycle roles none [] cycle = cycle
no_cycle roles none (i ∷ rest) cycle = none i (rest, cycle)

accepted_in : (o : Option Data) → ((row : ℕ) (rule : Rule) → ¬ RoleBreaks o row rule) → IsAccepted 4096 (roles_in o)
accepted_in o sound = record {
  forms = list_formed (rows_in o) (rows_sound role_rows o (λ row rule b. sound row rule (inl b)));
  apart = list_distinct (rows_in o) (rows_sound role_rows o (λ row rule b. sound row rule (inl b)));
  acyclic = no_cycle (roles_in o) (λ row lies. sound row ParameterCycle (inr (refl, lies)));
}

pub accepted : (longest : ℕ) (bytes : List ℕ) (config : Config) → Says longest bytes config → IsAccepted 4096 config.roles
accepted longest bytes config says =
    subst (λ (roles : List RoleData). IsAccepted 4096 roles) (sym (ap (λ (c : Config). c.roles) says.said))
    (accepted_in (get_member (codes "role") says.top) (λ row rule b. says.sound (fault_at Role row rule) (inr (says.top, says.toml, b))))
