-- The first fault of a file.
use Rattle.std.proofs.Common.{◌≡◌, ℕ, ◌<◌, ◌≤◌, inl, inr, true, false, List, [], length, take, get_or, map, Some, None, Option, option_map, Result, Ok, Err, refl, sym, ap, ◌∙◌, subst, arith}
use Rattle.std.specs.Prelude.{codes, Any, slice_get, MatchResult, IsUtf8, nat_lt, ◌==◌, if◌then◌else◌}
use Rattle.std.proofs.lemmas.Bool.{false≢true, cases_lt}
use Rattle.std.proofs.lemmas.List.{length-map, length-take, take-map, get_or-take}
use Rattle.std.proofs.lemmas.Option.{slice_get-map, slice_get_within, get_or_from_slice_get}
use Rattle.role_expand.specs.Roles.{RoleData, HasRoleForm}
use Rattle.role_expand.specs.Refusals.{IsFirstBadRole, IsFirstRepeat}
use Rattle.toml.specs.Parse.{parse_document}
use Rattle.toml.specs.Data.{Data, string, integer, float, boolean, datetime, array, table, Members, get_member}
use Rattle.farm_files.specs.declared.fault.Table.{Table}
use Rattle.farm_files.specs.declared.fault.Table.TheVariants.{File, Farm, Role, Client, Hook}
use Rattle.farm_files.specs.declared.fault.Rule.{Rule}
use Rattle.farm_files.specs.declared.fault.Rule.TheVariants.{NotToml, UnknownKey, MissingKey, WrongKind, OutOfForm, RepeatedId, ParameterCycle, NotJson, TooLong}
use Rattle.farm_files.specs.declared.fault.Fault.{Fault}
use Rattle.farm_files.specs.Faults.{rule_number, fault_at, turn, IsBefore, IsFirst, IsLeastRule}
use Rattle.farm_files.specs.Values.{has_only}
use Rattle.farm_files.specs.Clients.{AreClients, client_rows, clients_in}
use Rattle.farm_files.specs.Hooks.{AreHooks, hook_rows, hooks_in}
use Rattle.farm_files.specs.Roles.{LiesOnCycle, role_rows, roles_in}
use Rattle.farm_files.specs.Rows.{Kind, HasRowForm, RowBreaks, RowAtBreaks, RowsBreak, rows_in, says_of}
use Rattle.farm_files.proofs.ClientLemmas.{clients_one}
use Rattle.farm_files.proofs.HookLemmas.{hooks_one}
use Rattle.farm_files.specs.Files.{table_names, FarmBreaks, farm_in, TablesBreak, IsToml, BytesBreak, Breaks}
use Rattle.farm_files.specs.Parts.{IsFirstRow, IsFirstOnCycle, RefusesRows, RefusesCycle}
use Rattle.farm_files.specs.declared.fault.FileFault.{FileFault}
use Rattle.farm_files.specs.declared.fault.FileFault.TheVariants as faults
use Rattle.farm_asks.specs.declared.config.Config.{Config}
use Rattle.farm_files.specs.Farms.{farm_of, SaysTables, Says, Refuses, RefusesTables}

role_turn : (r : Rule) → 4 ≤ turn Role r
role_turn NotToml = omega arith
role_turn UnknownKey = omega arith
role_turn MissingKey = omega arith
role_turn WrongKind = omega arith
role_turn OutOfForm = omega arith
role_turn RepeatedId = omega arith
role_turn ParameterCycle = omega arith
role_turn NotJson = omega arith
role_turn TooLong = omega arith

role_turn_below : (r : Rule) → turn Role r ≤ 5
role_turn_below NotToml = omega arith
role_turn_below UnknownKey = omega arith
role_turn_below MissingKey = omega arith
role_turn_below WrongKind = omega arith
role_turn_below OutOfForm = omega arith
role_turn_below RepeatedId = omega arith
role_turn_below ParameterCycle = omega arith
role_turn_below NotJson = omega arith
role_turn_below TooLong = omega arith

row_turn : (r : Rule) → (r ≡ ParameterCycle → ⊥) → turn Role r ≡ 4
row_turn NotToml h = refl
row_turn UnknownKey h = refl
row_turn MissingKey h = refl
row_turn WrongKind h = refl
row_turn OutOfForm h = refl
row_turn RepeatedId h = refl
row_turn ParameterCycle h = absurd (h refl)
row_turn NotJson h = refl
row_turn TooLong h = refl

-- a later turn is not before
later : (f g : Fault) → turn g.table g.rule < turn f.table f.rule → IsBefore f g → ⊥
later f g lt (inl h) = absurd (omega arith)
later f g lt (inr h) = absurd (omega (arith, h.0))

row_no_cycle : {X : Type 0} (kind : Kind X) (es : List X) (i : ℕ) (d : Data) → RowBreaks kind es i d ParameterCycle → ⊥
row_no_cycle kind es i (string s) h = h
row_no_cycle kind es i (integer z) h = h
row_no_cycle kind es i (float x) h = h
row_no_cycle kind es i (boolean b) h = h
row_no_cycle kind es i (datetime t) h = h
row_no_cycle kind es i (array ds) h = h
row_no_cycle kind es i (table ms) h = h

wrong_cycle : WrongKind ≡ ParameterCycle → ⊥
wrong_cycle e = absurd cc

rows_no_cycle : {X : Type 0} (kind : Kind X) (o : Option Data) (row : ℕ) → RowsBreak kind o row ParameterCycle → ⊥
rows_no_cycle kind None row h = h
rows_no_cycle kind (Some (string s)) row h = wrong_cycle (sym h.1)
rows_no_cycle kind (Some (integer z)) row h = wrong_cycle (sym h.1)
rows_no_cycle kind (Some (float x)) row h = wrong_cycle (sym h.1)
rows_no_cycle kind (Some (boolean b)) row h = wrong_cycle (sym h.1)
rows_no_cycle kind (Some (datetime t)) row h = wrong_cycle (sym h.1)
rows_no_cycle kind (Some (array ds)) row h = row_no_cycle kind _ row h.0 h.2
rows_no_cycle kind (Some (table ms)) row h = wrong_cycle (sym h.1)

-- no rule of the file as a whole
file_sound : (top : Members) (row : ℕ) (r : Rule) → has_only table_names top ≡ true → TablesBreak top File row r → ⊥
file_sound top row NotToml only h = h
file_sound top row UnknownKey only h = false≢true (sym h.1 ∙ only)
file_sound top row MissingKey only h = h
file_sound top row WrongKind only h = h
file_sound top row OutOfForm only h = h
file_sound top row RepeatedId only h = h
file_sound top row ParameterCycle only h = h
file_sound top row NotJson only h = h
file_sound top row TooLong only h = h

-- ---- the tables

unknown_before : (top : Members) (t : Table) (row : ℕ) (r : Rule) → IsBefore (fault_at t row r) (fault_at File 0 UnknownKey) → TablesBreak top t row r → ⊥
unknown_before top File row NotToml b h = h
unknown_before top File row UnknownKey (inl lt) h = absurd (omega arith)
unknown_before top File row UnknownKey (inr (e, inl lt)) h = absurd (omega arith)
unknown_before top File row UnknownKey (inr (e, inr k)) h = absurd (omega (arith, k.1))
unknown_before top File row MissingKey b h = h
unknown_before top File row WrongKind b h = h
unknown_before top File row OutOfForm b h = h
unknown_before top File row RepeatedId b h = h
unknown_before top File row ParameterCycle b h = h
unknown_before top File row NotJson b h = h
unknown_before top File row TooLong b h = h
unknown_before top Farm row r b h = later (fault_at Farm row r) (fault_at File 0 UnknownKey) (omega arith) b
unknown_before top Client row r b h = later (fault_at Client row r) (fault_at File 0 UnknownKey) (omega arith) b
unknown_before top Hook row r b h = later (fault_at Hook row r) (fault_at File 0 UnknownKey) (omega arith) b
unknown_before top Role row r b h = later (fault_at Role row r) (fault_at File 0 UnknownKey) (omega (arith, role_turn r)) b

pub first_unknown : (top : Members) → has_only table_names top ≡ false → IsFirst (λ g. TablesBreak top g.table g.row g.rule) (fault_at File 0 UnknownKey)
first_unknown top h = record { breaks = (refl, h); first = λ g b x. unknown_before top g.table g.row g.rule b x }

farm_before : (top : Members) (rule : Rule) → has_only table_names top ≡ true → IsLeastRule (FarmBreaks (farm_in top)) rule
    → (t : Table) (row : ℕ) (r : Rule) → IsBefore (fault_at t row r) (fault_at Farm 0 rule) → TablesBreak top t row r → ⊥
farm_before top rule only least File row r b h = file_sound top row r only h
farm_before top rule only least Farm row r (inl lt) h = absurd (omega arith)
farm_before top rule only least Farm row r (inr (e, inl lt)) h = absurd (omega arith)
farm_before top rule only least Farm row r (inr (e, inr k)) h = least.least r k.1 h.1
farm_before top rule only least Client row r b h = later (fault_at Client row r) (fault_at Farm 0 rule) (omega arith) b
farm_before top rule only least Hook row r b h = later (fault_at Hook row r) (fault_at Farm 0 rule) (omega arith) b
farm_before top rule only least Role row r b h = later (fault_at Role row r) (fault_at Farm 0 rule) (omega (arith, role_turn r)) b

pub first_farm : (top : Members) (rule : Rule) → has_only table_names top ≡ true → IsLeastRule (FarmBreaks (farm_in top)) rule
    → IsFirst (λ g. TablesBreak top g.table g.row g.rule) (fault_at Farm 0 rule)
first_farm top rule only least = record { breaks = (refl, least.breaks); first = λ g b x. farm_before top rule only least g.table g.row g.rule b x }

module _ (top : Members) (only : has_only table_names top ≡ true) (farm : (rule : Rule) → ¬ FarmBreaks (farm_in top) rule) where
  role_before : (f : Fault) → IsFirstRow Role (RowsBreak role_rows (get_member (codes "role") top)) f
      → (t : Table) (row : ℕ) (r : Rule) → IsBefore (fault_at t row r) (fault_at Role f.row f.rule) → TablesBreak top t row r → ⊥
  role_before f first File row r b h = file_sound top row r only h
  role_before f first Farm row r b h = farm r h.1
  role_before f first Client row r b h = later (fault_at Client row r) (fault_at Role f.row f.rule) (omega (arith, role_turn_below f.rule)) b
  role_before f first Hook row r b h = later (fault_at Hook row r) (fault_at Role f.row f.rule) (omega (arith, role_turn_below f.rule)) b
  role_before f first Role row r b (inr k) =
      let mine : turn Role f.rule ≡ 4 = row_turn f.rule (λ e. rows_no_cycle role_rows (get_member (codes "role") top) f.row (subst (λ (x : Rule). RowsBreak role_rows (get_member (codes "role") top) f.row x) e first.breaks)) in
      later (fault_at Role row r) (fault_at Role f.row f.rule) (omega (arith, mine, ap (turn Role) k.0)) b
  role_before f first Role row r (inl lt) (inl h) =
      let mine : turn Role f.rule ≡ 4 = row_turn f.rule (λ e. rows_no_cycle role_rows (get_member (codes "role") top) f.row (subst (λ (x : Rule). RowsBreak role_rows (get_member (codes "role") top) f.row x) e first.breaks)) in
      absurd (omega (arith, mine, role_turn r))
  role_before f first Role row r (inr (e, inl lt)) (inl h) = first.earlier row r lt h
  role_before f first Role row r (inr (e, inr k)) (inl h) =
      first.least r k.1 (subst (λ (n : ℕ). RowsBreak role_rows (get_member (codes "role") top) n r) k.0 h)

  pub first_role : (f : Fault) → IsFirstRow Role (RowsBreak role_rows (get_member (codes "role") top)) f → IsFirst (λ g. TablesBreak top g.table g.row g.rule) f
  first_role f first =
      let is : fault_at Role f.row f.rule ≡ f = ap (λ (t : Table). fault_at t f.row f.rule) (sym first.table_is) in
      subst (λ (x : Fault). IsFirst (λ g. TablesBreak top g.table g.row g.rule) x) is
      record { breaks = inl first.breaks; first = λ g b x. role_before f first g.table g.row g.rule b x }

  module _ (rows : (row : ℕ) (rule : Rule) → ¬ RowsBreak role_rows (get_member (codes "role") top) row rule) where
    cycle_before : (f : Fault) → IsFirstOnCycle (roles_in (get_member (codes "role") top)) f
        → (t : Table) (row : ℕ) (r : Rule) → IsBefore (fault_at t row r) (fault_at Role f.row ParameterCycle) → TablesBreak top t row r → ⊥
    cycle_before f first File row r b h = file_sound top row r only h
    cycle_before f first Farm row r b h = farm r h.1
    cycle_before f first Client row r b h = later (fault_at Client row r) (fault_at Role f.row ParameterCycle) (omega arith) b
    cycle_before f first Hook row r b h = later (fault_at Hook row r) (fault_at Role f.row ParameterCycle) (omega arith) b
    cycle_before f first Role row r b (inl h) = rows row r h
    cycle_before f first Role row r (inl lt) (inr k) = absurd (omega (arith, ap (turn Role) k.0))
    cycle_before f first Role row r (inr (e, inl lt)) (inr k) = first.earlier row lt k.1
    cycle_before f first Role row r (inr (e, inr q)) (inr k) = absurd (omega (arith, q.1, ap rule_number k.0))

    pub first_cycle : (roles : List RoleData) (f : Fault) → roles ≡ roles_in (get_member (codes "role") top) → IsFirstOnCycle roles f → IsFirst (λ g. TablesBreak top g.table g.row g.rule) f
    first_cycle roles f same on =
        let first = subst (λ (rs : List RoleData). IsFirstOnCycle rs f) same on in
        subst (λ (x : Fault). IsFirst (λ g. TablesBreak top g.table g.row g.rule) x) (sym first.is)
        record { breaks = inr (refl, first.lies); first = λ g b x. cycle_before f first g.table g.row g.rule b x }

    module _ (acyclic : (row : ℕ) → ¬ LiesOnCycle (roles_in (get_member (codes "role") top)) row) where
      client_before : (f : Fault) → IsFirstRow Client (RowsBreak client_rows (get_member (codes "client") top)) f
          → (t : Table) (row : ℕ) (r : Rule) → IsBefore (fault_at t row r) (fault_at Client f.row f.rule) → TablesBreak top t row r → ⊥
      client_before f first File row r b h = file_sound top row r only h
      client_before f first Farm row r b h = farm r h.1
      client_before f first Role row r b (inl h) = rows row r h
      client_before f first Role row r b (inr k) = acyclic row k.1
      client_before f first Hook row r b h = later (fault_at Hook row r) (fault_at Client f.row f.rule) (omega arith) b
      client_before f first Client row r (inl lt) h = absurd (omega arith)
      client_before f first Client row r (inr (e, inl lt)) h = first.earlier row r lt h
      client_before f first Client row r (inr (e, inr k)) h =
          first.least r k.1 (subst (λ (n : ℕ). RowsBreak client_rows (get_member (codes "client") top) n r) k.0 h)

      pub first_client : (f : Fault) → IsFirstRow Client (RowsBreak client_rows (get_member (codes "client") top)) f → IsFirst (λ g. TablesBreak top g.table g.row g.rule) f
      first_client f first =
          let is : fault_at Client f.row f.rule ≡ f = ap (λ (t : Table). fault_at t f.row f.rule) (sym first.table_is) in
          subst (λ (x : Fault). IsFirst (λ g. TablesBreak top g.table g.row g.rule) x) is
          record { breaks = first.breaks; first = λ g b x. client_before f first g.table g.row g.rule b x }

      module _ (clients : (row : ℕ) (rule : Rule) → ¬ RowsBreak client_rows (get_member (codes "client") top) row rule) where
        hook_before : (f : Fault) → IsFirstRow Hook (RowsBreak hook_rows (get_member (codes "hook") top)) f
            → (t : Table) (row : ℕ) (r : Rule) → IsBefore (fault_at t row r) (fault_at Hook f.row f.rule) → TablesBreak top t row r → ⊥
        hook_before f first File row r b h = file_sound top row r only h
        hook_before f first Farm row r b h = farm r h.1
        hook_before f first Role row r b (inl h) = rows row r h
        hook_before f first Role row r b (inr k) = acyclic row k.1
        hook_before f first Client row r b h = clients row r h
        hook_before f first Hook row r (inl lt) h = absurd (omega arith)
        hook_before f first Hook row r (inr (e, inl lt)) h = first.earlier row r lt h
        hook_before f first Hook row r (inr (e, inr k)) h =
            first.least r k.1 (subst (λ (n : ℕ). RowsBreak hook_rows (get_member (codes "hook") top) n r) k.0 h)

        pub first_hook : (f : Fault) → IsFirstRow Hook (RowsBreak hook_rows (get_member (codes "hook") top)) f → IsFirst (λ g. TablesBreak top g.table g.row g.rule) f
        first_hook f first =
            let is : fault_at Hook f.row f.rule ≡ f = ap (λ (t : Table). fault_at t f.row f.rule) (sym first.table_is) in
            subst (λ (x : Fault). IsFirst (λ g. TablesBreak top g.table g.row g.rule) x) is
            record { breaks = first.breaks; first = λ g b x. hook_before f first g.table g.row g.rule b x }

        sound_at : ((row : ℕ) (rule : Rule) → ¬ RowsBreak hook_rows (get_member (codes "hook") top) row rule) → (t : Table) (row : ℕ) (r : Rule) → TablesBreak top t row r → ⊥
        sound_at hooks File row r h = file_sound top row r only h
        sound_at hooks Farm row r h = farm r h.1
        sound_at hooks Role row r (inl h) = rows row r h
        sound_at hooks Role row r (inr k) = acyclic row k.1
        sound_at hooks Client row r h = clients row r h
        sound_at hooks Hook row r h = hooks row r h

    acyclic_in : (roles : List RoleData) → roles ≡ roles_in (get_member (codes "role") top) → ((row : ℕ) → ¬ LiesOnCycle roles row)
        → (row : ℕ) → ¬ LiesOnCycle (roles_in (get_member (codes "role") top)) row
    acyclic_in roles same acyclic = subst (λ (rs : List RoleData). (row : ℕ) → ¬ LiesOnCycle rs row) same acyclic

    pub tables_sound : (roles : List RoleData) → roles ≡ roles_in (get_member (codes "role") top) → ((row : ℕ) → ¬ LiesOnCycle roles row)
        → ((row : ℕ) (rule : Rule) → ¬ RowsBreak client_rows (get_member (codes "client") top) row rule)
        → ((row : ℕ) (rule : Rule) → ¬ RowsBreak hook_rows (get_member (codes "hook") top) row rule) → (f : Fault) → ¬ TablesBreak top f.table f.row f.rule
    tables_sound roles same acyclic clients hooks f = sound_at (acyclic_in roles same acyclic) clients hooks f.table f.row f.rule

-- ---- the bytes

bytes_sound : (longest : ℕ) (bytes : List ℕ) (top : Members) → length bytes ≤ longest → IsToml bytes top → (r : Rule) → BytesBreak longest bytes r → ⊥
bytes_sound longest bytes top le toml NotToml h = h top toml
bytes_sound longest bytes top le toml UnknownKey h = h
bytes_sound longest bytes top le toml MissingKey h = h
bytes_sound longest bytes top le toml WrongKind h = h
bytes_sound longest bytes top le toml OutOfForm h = h
bytes_sound longest bytes top le toml RepeatedId h = h
bytes_sound longest bytes top le toml ParameterCycle h = h
bytes_sound longest bytes top le toml NotJson h = h
bytes_sound longest bytes top le toml TooLong h = absurd (omega arith)

some_members : (a b : Members) → Some a ≡ Some b → a ≡ b
some_members a b e = cc

pub toml_one : (bytes : List ℕ) (a b : Members) → IsToml bytes a → IsToml bytes b → a ≡ b
toml_one bytes a b p q = some_members a b (sym p.members ∙ q.members)

pub first_of_tables : (longest : ℕ) (bytes : List ℕ) (top : Members) (f : Fault) → length bytes ≤ longest → IsToml bytes top
    → IsFirst (λ g. TablesBreak top g.table g.row g.rule) f → IsFirst (Breaks longest bytes) f
first_of_tables longest bytes top f le toml h = record {
  breaks = inr (top, toml, h.breaks);
  first = λ g b x.
      elim x [
        | inl k ↦ bytes_sound longest bytes top le toml g.rule k.2
        | inr k ↦ h.first g b (subst (λ (t : Members). TablesBreak t g.table g.row g.rule) (toml_one bytes k.0 top k.1 toml) k.2)
      ];
}

pub sound_of_tables : (longest : ℕ) (bytes : List ℕ) (top : Members) → length bytes ≤ longest → IsToml bytes top
    → ((f : Fault) → ¬ TablesBreak top f.table f.row f.rule) → (f : Fault) → ¬ Breaks longest bytes f
sound_of_tables longest bytes top le toml h f (inl k) = bytes_sound longest bytes top le toml f.rule k.2
sound_of_tables longest bytes top le toml h f (inr k) = h f (subst (λ (t : Members). TablesBreak t f.table f.row f.rule) (toml_one bytes k.0 top k.1 toml) k.2)

turn_zero : (t : Table) (r : Rule) → turn t r ≡ 0 → rule_number r ≡ 9
turn_zero File NotToml e = absurd (omega arith)
turn_zero File UnknownKey e = absurd (omega arith)
turn_zero File MissingKey e = absurd (omega arith)
turn_zero File WrongKind e = absurd (omega arith)
turn_zero File OutOfForm e = absurd (omega arith)
turn_zero File RepeatedId e = absurd (omega arith)
turn_zero File ParameterCycle e = absurd (omega arith)
turn_zero File NotJson e = absurd (omega arith)
turn_zero File TooLong e = refl
turn_zero Farm r e = absurd (omega arith)
turn_zero Role r e = absurd (omega (arith, role_turn r))
turn_zero Client r e = absurd (omega arith)
turn_zero Hook r e = absurd (omega arith)

none_before_long : (g : Fault) → IsBefore g (fault_at File 0 TooLong) → ⊥
none_before_long g (inl lt) = absurd (omega arith)
none_before_long g (inr (e, inl lt)) = absurd (omega arith)
none_before_long g (inr (e, inr k)) = absurd (omega (arith, k.1, turn_zero g.table g.rule e))

pub first_long : (longest : ℕ) (bytes : List ℕ) → longest < length bytes → IsFirst (Breaks longest bytes) (fault_at File 0 TooLong)
first_long longest bytes lt = record { breaks = inl (refl, refl, lt); first = λ g b x. none_before_long g b }

toml_before : (longest : ℕ) (bytes : List ℕ) → length bytes ≤ longest → (t : Table) (row : ℕ) (r : Rule) → IsBefore (fault_at t row r) (fault_at File 0 NotToml)
    → (t ≡ File) × (row ≡ 0) × BytesBreak longest bytes r → ⊥
toml_before longest bytes le File row NotToml (inl lt) h = absurd (omega arith)
toml_before longest bytes le File row NotToml (inr (e, inl lt)) h = absurd (omega arith)
toml_before longest bytes le File row NotToml (inr (e, inr k)) h = absurd (omega (arith, k.1))
toml_before longest bytes le Farm row NotToml b h = absurd (let e : Farm ≡ File = h.0 in cc)
toml_before longest bytes le Role row NotToml b h = absurd (let e : Role ≡ File = h.0 in cc)
toml_before longest bytes le Client row NotToml b h = absurd (let e : Client ≡ File = h.0 in cc)
toml_before longest bytes le Hook row NotToml b h = absurd (let e : Hook ≡ File = h.0 in cc)
toml_before longest bytes le t row UnknownKey b h = h.2
toml_before longest bytes le t row MissingKey b h = h.2
toml_before longest bytes le t row WrongKind b h = h.2
toml_before longest bytes le t row OutOfForm b h = h.2
toml_before longest bytes le t row RepeatedId b h = h.2
toml_before longest bytes le t row ParameterCycle b h = h.2
toml_before longest bytes le t row NotJson b h = h.2
toml_before longest bytes le t row TooLong b h = absurd (omega (arith, h.2))

pub first_not_toml : (longest : ℕ) (bytes : List ℕ) → length bytes ≤ longest → ((top : Members) → ¬ IsToml bytes top) → IsFirst (Breaks longest bytes) (fault_at File 0 NotToml)
first_not_toml longest bytes le never = record {
  breaks = inl (refl, refl, never);
  first = λ g b x. elim x [ inl k ↦ toml_before longest bytes le g.table g.row g.rule b k | inr k ↦ never k.0 k.1 ];
}

-- ---- what sound rows rule out of what they say

pub row_form : {X : Type 0} (kind : Kind X) (es : List X) (i : ℕ) (d : Data) → ((rule : Rule) → ¬ RowBreaks kind es i d rule) → ¬ (¬ HasRowForm kind i (says_of kind d))
row_form kind es i (table ms) sound never = sound OutOfForm never
row_form kind es i (string s) sound never = sound WrongKind tt
row_form kind es i (integer z) sound never = sound WrongKind tt
row_form kind es i (float x) sound never = sound WrongKind tt
row_form kind es i (boolean b) sound never = sound WrongKind tt
row_form kind es i (datetime t) sound never = sound WrongKind tt
row_form kind es i (array ds) sound never = sound WrongKind tt

pub row_json : {X : Type 0} (kind : Kind X) (es : List X) (i : ℕ) (d : Data) → ((rule : Rule) → ¬ RowBreaks kind es i d rule) → ¬ (¬ kind.HasJson (says_of kind d))
row_json kind es i (table ms) sound never = sound NotJson never
row_json kind es i (string s) sound never = sound WrongKind tt
row_json kind es i (integer z) sound never = sound WrongKind tt
row_json kind es i (float x) sound never = sound WrongKind tt
row_json kind es i (boolean b) sound never = sound WrongKind tt
row_json kind es i (datetime t) sound never = sound WrongKind tt
row_json kind es i (array ds) sound never = sound WrongKind tt

pub row_apart : {X : Type 0} (kind : Kind X) (es : List X) (i : ℕ) (d : Data) → ((rule : Rule) → ¬ RowBreaks kind es i d rule) → ¬ Any (λ e. kind.id_of e ≡ kind.id_of (says_of kind d)) es
row_apart kind es i (table ms) sound found = sound RepeatedId found
row_apart kind es i (string s) sound found = sound WrongKind tt
row_apart kind es i (integer z) sound found = sound WrongKind tt
row_apart kind es i (float x) sound found = sound WrongKind tt
row_apart kind es i (boolean b) sound found = sound WrongKind tt
row_apart kind es i (datetime t) sound found = sound WrongKind tt
row_apart kind es i (array ds) sound found = sound WrongKind tt

module _ {X : Type 0} (kind : Kind X) where
  mapped : (o : Option Data) (x : X) → option_map (says_of kind) o ≡ Some x → (d : Data) × (o ≡ Some d) × (says_of kind d ≡ x)
  mapped None x e = absurd cc
  mapped (Some d) x e = (d, refl, cc)

  pub said_at : (xs : List Data) (i : ℕ) (x : X) → slice_get (map (says_of kind) xs) i ≡ Some x → (d : Data) × (slice_get xs i ≡ Some d) × (says_of kind d ≡ x)
  said_at xs i x e = mapped (slice_get xs i) x (sym (slice_get-map (says_of kind) xs i) ∙ e)

  -- no two sound rows have one id
  pub no_repeat : (xs : List Data) → ((row : ℕ) (rule : Rule) → ¬ RowAtBreaks kind xs row rule) → (i j : ℕ) (x y : X) → i < j
      → slice_get (map (says_of kind) xs) i ≡ Some x → slice_get (map (says_of kind) xs) j ≡ Some y → kind.id_of x ≡ kind.id_of y → ⊥
  no_repeat xs sound i j x y lt at_i at_j same =
      let at = said_at xs j y at_j in
      let within : j < length xs = slice_get_within xs j at.0 at.1 in
      let long : i < length (map (says_of kind) (take j xs)) = omega (arith, length-map (take j xs) (says_of kind), length-take {A = Data}) in
      let here : get_or (map (says_of kind) (take j xs)) i x ≡ x =
      ap (λ (rs : List X). get_or rs i x) (sym (take-map (says_of kind) j xs))
      ∙ get_or-take j (map (says_of kind) xs) i x lt
      ∙ get_or_from_slice_get (map (says_of kind) xs) i x x at_i in
      row_apart kind (map (says_of kind) (take j xs)) j at.0 (λ rule b. sound j rule (at.0, at.1, b)) (i, x, long, here, same ∙ ap kind.id_of (sym at.2))

  no_row : (row : ℕ) (rule : Rule) → ¬ RowAtBreaks kind [] row rule
  no_row row rule b = absurd (let e : None ≡ Some b.0 = b.1 in cc)

  -- the rows of a sound table are sound
  pub rows_sound : (o : Option Data) → ((row : ℕ) (rule : Rule) → ¬ RowsBreak kind o row rule) → (row : ℕ) (rule : Rule) → ¬ RowAtBreaks kind (rows_in o) row rule
  rows_sound None sound = no_row
  rows_sound (Some (array ds)) sound = sound
  rows_sound (Some (string s)) sound = no_row
  rows_sound (Some (integer z)) sound = no_row
  rows_sound (Some (float x)) sound = no_row
  rows_sound (Some (boolean b)) sound = no_row
  rows_sound (Some (datetime t)) sound = no_row
  rows_sound (Some (table ms)) sound = no_row

list_forms : (xs : List Data) → ((row : ℕ) (rule : Rule) → ¬ RowAtBreaks role_rows xs row rule) → (place : ℕ) → ¬ IsFirstBadRole 4096 (map (says_of role_rows) xs) place
list_forms xs sound place bad =
    let at = said_at role_rows xs place bad.role bad.at in
    row_form role_rows (map (says_of role_rows) (take place xs)) place at.0 (λ rule b. sound place rule (at.0, at.1, b))
    (λ form. bad.bad (subst (λ (r : RoleData). HasRoleForm 4096 r) at.2 form.form.form))

pub forms : (o : Option Data) (roles : List RoleData) → roles ≡ roles_in o → ((row : ℕ) (rule : Rule) → ¬ RowsBreak role_rows o row rule) → (place : ℕ) → ¬ IsFirstBadRole 4096 roles place
forms o roles same sound = subst (λ (rs : List RoleData). (place : ℕ) → ¬ IsFirstBadRole 4096 rs place) (sym same) (list_forms (rows_in o) (rows_sound role_rows o sound))

pub apart : (o : Option Data) (roles : List RoleData) → roles ≡ roles_in o → ((row : ℕ) (rule : Rule) → ¬ RowsBreak role_rows o row rule) → (i j : ℕ) → ¬ IsFirstRepeat roles i j
apart o roles same sound =
    subst (λ (rs : List RoleData). (i j : ℕ) → ¬ IsFirstRepeat rs i j) (sym same)
    (λ i j again. no_repeat role_rows (rows_in o) (rows_sound role_rows o sound) i j again.first again.second again.earlier again.at_i again.at_j again.same)

-- ---- results

pub refuses_rows : (top : Members) → has_only table_names top ≡ true → ((rule : Rule) → ¬ FarmBreaks (farm_in top) rule) → (e : FileFault)
    → RefusesRows Role (RowsBreak role_rows (get_member (codes "role") top)) e → RefusesTables top e
refuses_rows top only farm (faults.Fault f) h = first_role top only farm f h
refuses_rows top only farm faults.NoMemory h = tt

pub refuses_cycle : (top : Members) → has_only table_names top ≡ true → ((rule : Rule) → ¬ FarmBreaks (farm_in top) rule) → ((row : ℕ) (rule : Rule) → ¬ RowsBreak role_rows (get_member (codes "role") top) row rule)
    → (roles : List RoleData) → roles ≡ roles_in (get_member (codes "role") top) → (e : FileFault) → RefusesCycle roles e → RefusesTables top e
refuses_cycle top only farm rows roles same (faults.Fault f) h = first_cycle top only farm rows roles f same h
refuses_cycle top only farm rows roles same faults.NoMemory h = tt

pub refuses_clients : (top : Members) → has_only table_names top ≡ true → ((rule : Rule) → ¬ FarmBreaks (farm_in top) rule) → ((row : ℕ) (rule : Rule) → ¬ RowsBreak role_rows (get_member (codes "role") top) row rule)
    → (roles : List RoleData) → roles ≡ roles_in (get_member (codes "role") top) → ((row : ℕ) → ¬ LiesOnCycle roles row) → (e : FileFault)
    → RefusesRows Client (RowsBreak client_rows (get_member (codes "client") top)) e → RefusesTables top e
refuses_clients top only farm rows roles same acyclic (faults.Fault f) h = first_client top only farm rows (acyclic_in top only farm rows roles same acyclic) f h
refuses_clients top only farm rows roles same acyclic faults.NoMemory h = tt

pub refuses_hooks : (top : Members) → has_only table_names top ≡ true → ((rule : Rule) → ¬ FarmBreaks (farm_in top) rule) → ((row : ℕ) (rule : Rule) → ¬ RowsBreak role_rows (get_member (codes "role") top) row rule)
    → (roles : List RoleData) → roles ≡ roles_in (get_member (codes "role") top) → ((row : ℕ) → ¬ LiesOnCycle roles row)
    → ((row : ℕ) (rule : Rule) → ¬ RowsBreak client_rows (get_member (codes "client") top) row rule) → (e : FileFault)
    → RefusesRows Hook (RowsBreak hook_rows (get_member (codes "hook") top)) e → RefusesTables top e
refuses_hooks top only farm rows roles same acyclic clients (faults.Fault f) h = first_hook top only farm rows (acyclic_in top only farm rows roles same acyclic) clients f h
refuses_hooks top only farm rows roles same acyclic clients faults.NoMemory h = tt

pub says_farm : (longest : ℕ) (bytes : List ℕ) (top : Members) → length bytes ≤ longest → IsToml bytes top → (r : Result Config FileFault)
    → MatchResult r (SaysTables top) (RefusesTables top) → MatchResult r (Says longest bytes) (Refuses longest bytes)
says_farm longest bytes top le toml (Ok config) h = record { sound = sound_of_tables longest bytes top le toml h.sound; top = top; toml = toml; said = h.said; clients = h.clients; hooks = h.hooks }
says_farm longest bytes top le toml (Err (faults.Fault f)) h = first_of_tables longest bytes top f le toml h
says_farm longest bytes top le toml (Err faults.NoMemory) h = tt

pub never_toml : (bytes : List ℕ) → (IsUtf8 bytes → parse_document bytes ≡ None) → (top : Members) → ¬ IsToml bytes top
never_toml bytes h top t = absurd (let e : None ≡ Some top = sym (h t.text) ∙ t.members in cc)

-- ---- a fault is told once

rule_at : ℕ → Rule
rule_at n =
    if n == 1 then NotToml else (if n == 2 then UnknownKey else (if n == 3 then MissingKey else (if n == 4 then WrongKind else
    (if n == 5 then OutOfForm else (if n == 6 then RepeatedId else (if n == 7 then ParameterCycle else (if n == 8 then NotJson else TooLong)))))))

rule_at-number : (r : Rule) → rule_at (rule_number r) ≡ r
unfolding rule_at
rule_at-number NotToml = refl
rule_at-number UnknownKey = refl
rule_at-number MissingKey = refl
rule_at-number WrongKind = refl
rule_at-number OutOfForm = refl
rule_at-number RepeatedId = refl
rule_at-number ParameterCycle = refl
rule_at-number NotJson = refl
rule_at-number TooLong = refl

table_at : ℕ → Table
table_at n = if nat_lt n 3 then File else (if nat_lt n 4 then Farm else (if nat_lt n 6 then Role else (if nat_lt n 7 then Client else Hook)))

table_at-turn : (t : Table) (r : Rule) → table_at (turn t r) ≡ t
unfolding table_at
table_at-turn File NotToml = refl
table_at-turn File UnknownKey = refl
table_at-turn File MissingKey = refl
table_at-turn File WrongKind = refl
table_at-turn File OutOfForm = refl
table_at-turn File RepeatedId = refl
table_at-turn File ParameterCycle = refl
table_at-turn File NotJson = refl
table_at-turn File TooLong = refl
table_at-turn Farm r = refl
table_at-turn Role NotToml = refl
table_at-turn Role UnknownKey = refl
table_at-turn Role MissingKey = refl
table_at-turn Role WrongKind = refl
table_at-turn Role OutOfForm = refl
table_at-turn Role RepeatedId = refl
table_at-turn Role ParameterCycle = refl
table_at-turn Role NotJson = refl
table_at-turn Role TooLong = refl
table_at-turn Client r = refl
table_at-turn Hook r = refl

level : (m n : ℕ) → ¬ (m < n) → ¬ (n < m) → m ≡ n
level m n a b =
    elim (cases_lt m n) [
      | inl lt ↦ absurd (a lt)
      | inr le ↦ elim (cases_lt n m) [ inl lt ↦ absurd (b lt) | inr ge ↦ omega arith ]
    ]

fault_is : (f g : Fault) → f.table ≡ g.table → f.row ≡ g.row → f.rule ≡ g.rule → f ≡ g
fault_is f g t n r =
    ap (λ (x : Table). fault_at x f.row f.rule) t ∙ ap (λ (x : ℕ). fault_at g.table x f.rule) n ∙ ap (λ (x : Rule). fault_at g.table g.row x) r

-- two faults of which neither is before the other are one
neither : (f g : Fault) → ¬ IsBefore f g → ¬ IsBefore g f → f ≡ g
neither f g a b =
    let turns : turn f.table f.rule ≡ turn g.table g.rule = level _ _ (λ lt. a (inl lt)) (λ lt. b (inl lt)) in
    let rows : f.row ≡ g.row = level _ _ (λ lt. a (inr (turns, inl lt))) (λ lt. b (inr (sym turns, inl lt))) in
    let rules : rule_number f.rule ≡ rule_number g.rule = level _ _ (λ lt. a (inr (turns, inr (rows, lt)))) (λ lt. b (inr (sym turns, inr (sym rows, lt)))) in
    fault_is f g (sym (table_at-turn f.table f.rule) ∙ ap table_at turns ∙ table_at-turn g.table g.rule) rows
    (sym (rule_at-number f.rule) ∙ ap rule_at rules ∙ rule_at-number g.rule)

pub first_one : (P : Fault → Type 0) (f g : Fault) → IsFirst P f → IsFirst P g → f ≡ g
first_one P f g p q = neither f g (λ before. q.first f before p.breaks) (λ before. p.first g before q.breaks)

pub says_one : (longest : ℕ) (bytes : List ℕ) (a b : Config) → Says longest bytes a → Says longest bytes b → a ≡ b
says_one longest bytes a b p q =
    let tops = toml_one bytes p.top q.top p.toml q.toml in
    let clients = clients_one _ a.clients b.clients (subst (λ (top : Members). AreClients (clients_in (get_member (codes "client") top)) a.clients) tops p.clients) q.clients in
    let hooks = hooks_one _ a.hooks b.hooks (subst (λ (top : Members). AreHooks (hooks_in (get_member (codes "hook") top)) a.hooks) tops p.hooks) q.hooks in
    p.said ∙ ap (λ (top : Members). farm_of top a.clients a.hooks) tops ∙ ap (λ cs. farm_of q.top cs a.hooks) clients ∙ ap (farm_of q.top b.clients) hooks ∙ sym q.said
