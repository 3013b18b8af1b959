-- Rows, beside the values that stand for them.
use Rattle.std.proofs.Common.{◌≡◌, ℕ, ◌+◌, ◌<◌, Bool, true, false, cond, ◌||◌, List, [], ◌∷◌, ◌++◌, length, get_or, take, map, Option, Some, None, Result, Ok, Err, Bor, String, Global, refl, sym, ap, ◌∙◌, subst, arith, inl, inr}
use Rattle.std.specs.Prelude.{All, MatchResult, codes, is_some, slice_get}
use Rattle.std.specs.List.{list_all, list_any, filter_map}
use Rattle.std.specs.Str.{bytes_eq}
use Rattle.std.specs.BTreeSet.{BTreeSet, contains_text}
use Rattle.std.proofs.lemmas.Bool.{false≢true, cases_lt}
use Rattle.std.proofs.lemmas.List.{get_or-map, length-map, map_more, map_push, take-map}
use Rattle.std.proofs.lemmas.List.Elements.{All-push}
use Rattle.std.proofs.lemmas.List.Folds.{list_any-append}
use Rattle.std.proofs.lemmas.Option.{slice_get-map, slice_get_read, slice_get_within}
use Rattle.std.proofs.lemmas.Slice.Eq.{bytes_eq-Decides}
use Rattle.scope_sets.specs.Scopes.{IsPrintable}
use Rattle.role_expand.specs.declared.roles.Role.{Role}
use Rattle.role_expand.specs.Roles.{RoleData, role_data}
use Rattle.role_expand.specs.Cycles.{IsCycle}
use Rattle.toml.specs.Data.{Data, string, integer, float, boolean, datetime, array, table, Items, Members, as_str, as_array, get_member}
use Rattle.toml.specs.View.{view, items_of}
use Rattle.toml.specs.declared.value.Value.{Value}
use Rattle.farm_files.specs.declared.fault.Rule.{Rule}
use Rattle.farm_files.specs.declared.fault.Rule.TheVariants.{NotToml, UnknownKey, MissingKey, WrongKind, OutOfForm, RepeatedId, ParameterCycle, NotJson, TooLong}
use Rattle.farm_files.specs.declared.fault.RowFault.{RowFault}
use Rattle.farm_files.specs.declared.fault.RowFault.TheVariants as rows
use Rattle.farm_files.specs.declared.fault.Table.{Table}
use Rattle.farm_files.specs.Earlier.{AreIdsOf}
use Rattle.farm_files.specs.Faults.{rule_number, fault_at}
use Rattle.farm_files.specs.Values.{has_only, is_text, are_texts, passes, text_or, texts_in}
use Rattle.farm_files.specs.Roles.{role_keys, role_rows, HasRoleKeys, HasRoleKinds, role_in}
use Rattle.farm_files.specs.Rows.{Kind, says_of, RowBreaks, RowAtBreaks, RowsBreak}
use Rattle.farm_files.specs.Parts.{role_by, AreRoleValues, RefusesValues, HasRow, RefusesKeys, IsFirstRow}
use Rattle.farm_files.proofs.ValueLemmas.{list_of-items}

pub not_printable : (texts : List (Bor (List ℕ))) (i : ℕ) (d : Bor (List ℕ)) (s : List ℕ) → i < length texts → s ≡ (get_or texts i d).now → ¬ All IsPrintable s
    → ¬ All (All IsPrintable) (map (λ t. t.now) texts)
not_printable texts i d s lt at bad all =
    let long : i < length (map (λ t. t.now) texts) = omega (arith, length-map texts (λ t. t.now)) in
    bad (subst (λ (t : List ℕ). All IsPrintable t) (get_or-map (λ t. t.now) texts i d d.now lt ∙ sym at) (all i d.now long))

pub array_is : (d : Data) (ds : Items) → Some ds ≡ as_array d → d ≡ array ds
array_is (string s) ds e = absurd cc
array_is (integer z) ds e = absurd cc
array_is (float x) ds e = absurd cc
array_is (boolean b) ds e = absurd cc
array_is (datetime t) ds e = absurd cc
array_is (array es) ds e = cc
array_is (table ms) ds e = absurd cc

pub array_texts : (d : Data) (vs ws : List Value) → Some (items_of (map view ws)) ≡ as_array d → vs ≡ ws
    → (are_texts d ≡ list_all is_text (map view vs)) × (texts_in (Some d) ≡ filter_map as_str (map view vs))
array_texts d vs ws e same =
    let is : d ≡ array (items_of (map view vs)) = array_is d _ e ∙ ap (λ us. array (items_of (map view us))) (sym same) in
    (ap are_texts is ∙ ap (list_all is_text) (list_of-items vs), ap (λ x. texts_in (Some x)) is ∙ ap (filter_map as_str) (list_of-items vs))

pub lacks : (o : Option Data) → None ≡ o → is_some o ≡ true → ⊥
lacks o e h = false≢true (ap is_some e ∙ h)

-- what two values say of a row, the row says
module _ (ms : Members) (id scopes : Data) (only : has_only role_keys ms ≡ true) (e1 : Some id ≡ get_member (codes "id") ms) (e2 : Some scopes ≡ get_member (codes "scopes") ms) where
  keys : HasRoleKeys ms
  keys = record { id = ap is_some (sym e1); scopes = ap is_some (sym e2) }

  kinds : is_text id ≡ true → are_texts scopes ≡ true → HasRoleKinds ms
  kinds a b = record { id = ap (passes is_text) (sym e1) ∙ a; scopes = ap (passes are_texts) (sym e2) ∙ b }

  role_is : role_by id scopes ≡ role_in ms
  role_is =
      let made : Option Data → Option Data → RoleData = λ a b. record { id = text_or [] a; scopes = texts_in b } in
      ap (λ a. made a (Some scopes)) e1 ∙ ap (made (get_member (codes "id") ms)) e2

  pub keys_from_values : (r : Result Role RowFault) → MatchResult r (λ role. AreRoleValues id scopes × (role_data role ≡ role_by id scopes)) (RefusesValues id scopes)
      → MatchResult r (λ role. HasRow role_rows ms × All (All IsPrintable) (role_in ms).scopes × (role_data role ≡ role_in ms)) (RefusesKeys role_rows ms)
  keys_from_values (Ok role) h = (
    record { only = only; keys = keys; kinds = kinds h.0.id_kind h.0.scopes_kind },
    subst (λ o. All (All IsPrintable) (texts_in o)) e2 h.0.printable,
    h.1 ∙ role_is,
  )
  keys_from_values (Err (rows.Breaks NotToml)) h = absurd h
  keys_from_values (Err (rows.Breaks UnknownKey)) h = absurd h
  keys_from_values (Err (rows.Breaks MissingKey)) h = absurd h
  keys_from_values (Err (rows.Breaks WrongKind)) h =
      (only, keys, λ k. h (ap (passes is_text) e1 ∙ k.id, ap (passes are_texts) e2 ∙ k.scopes))
  keys_from_values (Err (rows.Breaks OutOfForm)) h =
      (record { only = only; keys = keys; kinds = kinds h.0 h.1 }, λ form. h.2 (subst (λ o. All (All IsPrintable) (texts_in o)) (sym e2) form.printable))
  keys_from_values (Err (rows.Breaks RepeatedId)) h = absurd h
  keys_from_values (Err (rows.Breaks ParameterCycle)) h = absurd h
  keys_from_values (Err (rows.Breaks NotJson)) h = absurd h
  keys_from_values (Err (rows.Breaks TooLong)) h = absurd h
  keys_from_values (Err rows.NoMemory) h = tt

-- ---- an id among others

same_truth : (a b : Bool) → (a ≡ true → b ≡ true) → (b ≡ true → a ≡ true) → a ≡ b
same_truth true b f g = sym (f refl)
same_truth false true f g = g refl
same_truth false false f g = refl

bytes_eq-swap : (a b : List ℕ) → bytes_eq a b ≡ bytes_eq b a
bytes_eq-swap a b = same_truth (bytes_eq a b) (bytes_eq b a) (λ h. (bytes_eq-Decides b a).1 (sym ((bytes_eq-Decides a b).0 h))) (λ h. (bytes_eq-Decides a b).1 (sym ((bytes_eq-Decides b a).0 h)))

ids_with : (b c had has : Bool) → b ≡ c → had ≡ has → cond b true had ≡ (has || (c || false))
ids_with true true had true e h = refl
ids_with true true had false e h = refl
ids_with false false true true e h = refl
ids_with false false false false e h = refl
ids_with true false had has e h = absurd cc
ids_with false true had has e h = absurd cc
ids_with false false true false e h = absurd cc
ids_with false false false true e h = absurd cc

-- these ids, and behind them one more
pub ids_more : (used : List (List ℕ)) (id : List ℕ) (ids more : BTreeSet (String Global)) → AreIdsOf used ids
    → ((other : List ℕ) → contains_text more other ≡ cond (bytes_eq id other) true (contains_text ids other)) → AreIdsOf (used ++ id ∷ []) more
ids_more used id ids more are puts other =
    puts other ∙ ids_with (bytes_eq id other) (bytes_eq other id) (contains_text ids other) (list_any (λ o. bytes_eq other o) used) (bytes_eq-swap id other) (are other)
    ∙ sym (list_any-append (λ o. bytes_eq other o) used (id ∷ []))

-- ---- a row at its place

pub at_place : (vs : List Value) (i : ℕ) (v : Value) → i < length vs → v ≡ get_or vs i v → slice_get (map view vs) i ≡ Some (view v)
at_place vs i v lt at = rw (slice_get-map view vs i, slice_get_read vs (length vs) i v refl lt at) refl

pub earlier_is : {X : Type 0} (kind : Kind X) (vs : List Value) (i : ℕ) → map (says_of kind) (map view (take i vs)) ≡ map (says_of kind) (take i (map view vs))
earlier_is kind vs i = ap (map (says_of kind)) (sym (take-map view i vs))

some_is : (a b : Data) → Some a ≡ Some b → a ≡ b
some_is a b e = cc

pub row_sound_at : {X : Type 0} (kind : Kind X) (ds : List Data) (i : ℕ) (es : List X) (d : Data) → slice_get ds i ≡ Some d → es ≡ map (says_of kind) (take i ds) → ((rule : Rule) → ¬ RowBreaks kind es i d rule)
    → (rule : Rule) → ¬ RowAtBreaks kind ds i rule
row_sound_at kind ds i es d at before sound rule b =
    let same : b.0 ≡ d = some_is b.0 d (sym b.1 ∙ at) in
    sound rule (subst (λ x. RowBreaks kind es i x rule) same (subst (λ x. RowBreaks kind x i b.0 rule) (sym before) b.2))

pub row_breaks_at : {X : Type 0} (kind : Kind X) (ds : List Data) (i : ℕ) (es : List X) (d : Data) (rule : Rule) → slice_get ds i ≡ Some d → es ≡ map (says_of kind) (take i ds) → RowBreaks kind es i d rule → RowAtBreaks kind ds i rule
row_breaks_at kind ds i es d rule at before h = (d, at, subst (λ x. RowBreaks kind x i d rule) before h)

pub row_unbroken_at : {X : Type 0} (kind : Kind X) (ds : List Data) (i : ℕ) (es : List X) (d : Data) (rule : Rule) → slice_get ds i ≡ Some d → es ≡ map (says_of kind) (take i ds) → ¬ RowBreaks kind es i d rule → ¬ RowAtBreaks kind ds i rule
row_unbroken_at kind ds i es d rule at before never b =
    let same : b.0 ≡ d = some_is b.0 d (sym b.1 ∙ at) in
    never (subst (λ x. RowBreaks kind es i x rule) same (subst (λ x. RowBreaks kind x i b.0 rule) (sym before) b.2))

pub rows_more : {X : Type 0} (kind : Kind X) (ds : List Data) (i : ℕ) → ((j : ℕ) (rule : Rule) → j < i → ¬ RowAtBreaks kind ds j rule) → ((rule : Rule) → ¬ RowAtBreaks kind ds i rule)
    → (j : ℕ) (rule : Rule) → j < i + 1 → ¬ RowAtBreaks kind ds j rule
rows_more kind ds i before here j rule lt =
    elim (cases_lt j i) [
      | inl below ↦ before j rule below
      | inr above ↦ let e : i ≡ j = omega arith in subst (λ k. ¬ RowAtBreaks kind ds k rule) e (here rule)
    ]

pub row_within : {X : Type 0} (kind : Kind X) (es : List X) (i : ℕ) (d : Data) → ((rule : Rule) → ¬ RowBreaks kind es i d rule) → i < 10000
row_within kind es i (table ms) sound =
    elim (cases_lt i 10000) [ inl lt ↦ lt | inr le ↦ absurd (sound OutOfForm (λ form. absurd (omega (arith, form.within)))) ]
row_within kind es i (string s) sound = absurd (sound WrongKind tt)
row_within kind es i (integer z) sound = absurd (sound WrongKind tt)
row_within kind es i (float x) sound = absurd (sound WrongKind tt)
row_within kind es i (boolean b) sound = absurd (sound WrongKind tt)
row_within kind es i (datetime t) sound = absurd (sound WrongKind tt)
row_within kind es i (array ds) sound = absurd (sound WrongKind tt)

-- what rows say, and behind them one more
pub said_more : {X : Type 0} (kind : Kind X) (vs : List Value) (i : ℕ) (v : Value) → i < length vs → v ≡ get_or vs i v
    → map (says_of kind) (map view (take (i + 1) vs)) ≡ map (says_of kind) (map view (take i vs)) ++ says_of kind (view v) ∷ []
said_more kind vs i v lt at =
    let b : map view (take (i + 1) vs) ≡ map view (take i vs) ++ view v ∷ [] = map_more view vs i v lt ∙ ap (λ w. map view (take i vs) ++ view w ∷ []) (sym at) in
    ap (map (says_of kind)) b ∙ map_push (says_of kind) (map view (take i vs)) (view v)

pub roles_more : (vs : List Value) (i : ℕ) (v : Value) (so_far more : List RoleData) (role : RoleData) → i < length vs → v ≡ get_or vs i v → more ≡ so_far ++ role ∷ []
    → so_far ≡ map (says_of role_rows) (map view (take i vs)) → role ≡ says_of role_rows (view v) → more ≡ map (says_of role_rows) (map view (take (i + 1) vs))
roles_more vs i v so_far more role lt at pushed are is =
    pushed ∙ ap (λ t. t ++ role ∷ []) are ∙ ap (λ r. map (says_of role_rows) (map view (take i vs)) ++ r ∷ []) is ∙ sym (said_more role_rows vs i v lt at)

-- the ids of rows, and behind them one more
pub said_ids_more : {X : Type 0} (kind : Kind X) (vs : List Value) (i : ℕ) (v : Value) (id : List ℕ) (ids more : BTreeSet (String Global)) → i < length vs → v ≡ get_or vs i v
    → id ≡ kind.id_of (says_of kind (view v)) → AreIdsOf (map kind.id_of (map (says_of kind) (map view (take i vs)))) ids
    → ((used : List (List ℕ)) → AreIdsOf used ids → AreIdsOf (used ++ id ∷ []) more) → AreIdsOf (map kind.id_of (map (says_of kind) (map view (take (i + 1) vs)))) more
said_ids_more kind vs i v id ids more lt at is are adds =
    let said = map (says_of kind) (map view (take i vs)) in
    let all : map kind.id_of (map (says_of kind) (map view (take (i + 1) vs))) ≡ map kind.id_of said ++ id ∷ [] =
    ap (map kind.id_of) (said_more kind vs i v lt at) ∙ map_push kind.id_of said (says_of kind (view v)) ∙ ap (λ x. map kind.id_of said ++ x ∷ []) (sym is) in
    subst (λ used. AreIdsOf used more) (sym all) (adds (map kind.id_of said) are)

-- ---- cycles

pub on_cycle_within : (roles : List RoleData) (i : ℕ) (rest : List ℕ) → IsCycle roles (i ∷ rest) → i < length roles
on_cycle_within roles i [] w = slice_get_within roles i w.0 w.2
on_cycle_within roles i (c ∷ cs) w = slice_get_within roles i w.0.0 w.0.2

pub first_place : (items : List ℕ) (i : ℕ) (rest : List ℕ) (n : ℕ) → items ≡ i ∷ rest → n ≡ get_or items 0 n → n ≡ i
first_place items i rest n e at = at ∙ ap (λ xs. get_or xs 0 n) e

-- ---- scopes of texts

pub scopes_more : (texts : List (Bor (List ℕ))) (i : ℕ) (d : Bor (List ℕ)) (s : List ℕ) (scopes items : List (List ℕ)) → i < length texts → items ≡ scopes ++ s ∷ []
    → scopes ≡ map (λ t. t.now) (take i texts) → s ≡ (get_or texts i d).now → items ≡ map (λ t. t.now) (take (i + 1) texts)
scopes_more texts i d s scopes items lt pushed so_far is =
    pushed ∙ ap (λ (t : List (List ℕ)). t ++ s ∷ []) so_far ∙ ap (λ (x : List ℕ). map (λ t. t.now) (take i texts) ++ x ∷ []) is ∙ sym (map_more (λ t. t.now) texts i d lt)

pub printable_more : (texts : List (Bor (List ℕ))) (i : ℕ) (d : Bor (List ℕ)) (s : List ℕ) → i < length texts → s ≡ (get_or texts i d).now → All IsPrintable s
    → All (All IsPrintable) (map (λ t. t.now) (take i texts)) → All (All IsPrintable) (map (λ t. t.now) (take (i + 1) texts))
printable_more texts i d s lt is here before =
    subst (λ (xs : List (List ℕ)). All (All IsPrintable) xs) (sym (map_more (λ t. t.now) texts i d lt))
    (All-push (All IsPrintable) (map (λ t. t.now) (take i texts)) ((get_or texts i d).now) before (subst (λ (x : List ℕ). All IsPrintable x) is here))

-- ---- a table as a value

pub rows_none : {X : Type 0} (kind : Kind X) (o : Option Data) → None ≡ o → (row : ℕ) (rule : Rule) → ¬ RowsBreak kind o row rule
rows_none kind o e = subst (λ (x : Option Data). (row : ℕ) (rule : Rule) → ¬ RowsBreak kind x row rule) e (λ row rule b. b)

one_row : (t : Table) (P : ℕ → Rule → Type 0) → P 0 WrongKind → ((row : ℕ) (rule : Rule) → P row rule → rule ≡ WrongKind) → IsFirstRow t P (fault_at t 0 WrongKind)
one_row t P h only = record {
  table_is = refl;
  breaks = h;
  earlier = λ row rule lt. absurd (omega arith);
  least = λ rule lt b. absurd (omega (arith, ap rule_number (only 0 rule b)));
}

pub no_array : {X : Type 0} (kind : Kind X) (named : Table) (d : Data) → None ≡ as_array d → IsFirstRow named (RowsBreak kind (Some d)) (fault_at named 0 WrongKind)
no_array kind named (string s) e = one_row named (RowsBreak kind (Some (string s))) (refl, refl) (λ row rule b. b.1)
no_array kind named (integer z) e = one_row named (RowsBreak kind (Some (integer z))) (refl, refl) (λ row rule b. b.1)
no_array kind named (float x) e = one_row named (RowsBreak kind (Some (float x))) (refl, refl) (λ row rule b. b.1)
no_array kind named (boolean b) e = one_row named (RowsBreak kind (Some (boolean b))) (refl, refl) (λ row rule b. b.1)
no_array kind named (datetime t) e = one_row named (RowsBreak kind (Some (datetime t))) (refl, refl) (λ row rule b. b.1)
no_array kind named (array ds) e = absurd cc
no_array kind named (table ms) e = one_row named (RowsBreak kind (Some (table ms))) (refl, refl) (λ row rule b. b.1)
