-- The least rule of those that a table or a row breaks.
use Rattle.std.proofs.Common.{◌≡◌, ℕ, ◌<◌, Bool, true, false, ◌||◌, List, [], ◌∷◌, map, Some, None, String, Global, sym, ap, ◌∙◌, subst, arith, refl}
use Rattle.std.specs.Prelude.{Any}
use Rattle.std.specs.BTreeSet.{BTreeSet}
use Rattle.std.specs.List.{list_any}
use Rattle.std.specs.Str.{bytes_eq}
use Rattle.std.proofs.lemmas.List.Folds.{Any-from_list_any, list_any-from_Any}
use Rattle.std.proofs.lemmas.Slice.Eq.{bytes_eq-Decides}
use Rattle.std.proofs.lemmas.Bool.{false≢true}
use Rattle.toml.specs.Data.{Data, string, integer, float, boolean, datetime, array, table, Members, as_table}
use Rattle.farm_files.specs.declared.fault.Rule.{Rule}
use Rattle.farm_files.specs.declared.fault.Rule.TheVariants.{NotToml, UnknownKey, MissingKey, WrongKind, OutOfForm, RepeatedId, ParameterCycle, NotJson, TooLong}
use Rattle.farm_files.specs.declared.fault.RowFault.{RowFault}
use Rattle.farm_files.specs.declared.fault.RowFault.TheVariants as rows
use Rattle.farm_files.specs.declared.settings.Settings.{Settings}
use Rattle.farm_files.specs.Faults.{rule_number, IsLeastRule, RefusesRow}
use Rattle.farm_files.specs.Values.{has_only}
use Rattle.farm_files.specs.Files.{farm_keys, FarmBreaks, HasFarmKinds, HasFarmForms}
use Rattle.farm_files.specs.Rows.{Kind, HasRowForm, RowBreaks}
use Rattle.farm_files.specs.Parts.{HasRow, RefusesKeys, IsSoundRow, RefusesRowBehind}
use Rattle.farm_files.specs.Earlier.{AreIdsOf}

-- none below a number, from each rule
below : (P : Rule → Type 0) (n : ℕ) → (1 < n → ¬ P NotToml) → (2 < n → ¬ P UnknownKey) → (3 < n → ¬ P MissingKey) → (4 < n → ¬ P WrongKind)
    → (5 < n → ¬ P OutOfForm) → (6 < n → ¬ P RepeatedId) → (7 < n → ¬ P ParameterCycle) → (8 < n → ¬ P NotJson) → (9 < n → ¬ P TooLong)
    → (other : Rule) → rule_number other < n → ¬ P other
below P n a b c d e f g h i NotToml = a
below P n a b c d e f g h i UnknownKey = b
below P n a b c d e f g h i MissingKey = c
below P n a b c d e f g h i WrongKind = d
below P n a b c d e f g h i OutOfForm = e
below P n a b c d e f g h i RepeatedId = f
below P n a b c d e f g h i ParameterCycle = g
below P n a b c d e f g h i NotJson = h
below P n a b c d e f g h i TooLong = i

-- what is no table breaks one rule
kind_only : (P : Rule → Type 0) → P WrongKind → ¬ P NotToml → ¬ P UnknownKey → ¬ P MissingKey → IsLeastRule P WrongKind
kind_only P h a b c = record {
  breaks = h;
  least = below P 4 (λ lt. a) (λ lt. b) (λ lt. c) (λ lt. absurd (omega arith)) (λ lt. absurd (omega arith)) (λ lt. absurd (omega arith))
      (λ lt. absurd (omega arith)) (λ lt. absurd (omega arith)) (λ lt. absurd (omega arith));
}

pub farm_no_table : (d : Data) → None ≡ as_table d → IsLeastRule (FarmBreaks d) WrongKind
farm_no_table (string s) e = kind_only (FarmBreaks (string s)) tt (λ x. x) (λ x. x) (λ x. x)
farm_no_table (integer z) e = kind_only (FarmBreaks (integer z)) tt (λ x. x) (λ x. x) (λ x. x)
farm_no_table (float x) e = kind_only (FarmBreaks (float x)) tt (λ x. x) (λ x. x) (λ x. x)
farm_no_table (boolean b) e = kind_only (FarmBreaks (boolean b)) tt (λ x. x) (λ x. x) (λ x. x)
farm_no_table (datetime t) e = kind_only (FarmBreaks (datetime t)) tt (λ x. x) (λ x. x) (λ x. x)
farm_no_table (array ds) e = kind_only (FarmBreaks (array ds)) tt (λ x. x) (λ x. x) (λ x. x)
farm_no_table (table ms) e = absurd cc

pub row_no_table : {X : Type 0} (kind : Kind X) (es : List X) (i : ℕ) (d : Data) → None ≡ as_table d → IsLeastRule (RowBreaks kind es i d) WrongKind
row_no_table kind es i (string s) e = kind_only (RowBreaks kind es i (string s)) tt (λ x. x) (λ x. x) (λ x. x)
row_no_table kind es i (integer z) e = kind_only (RowBreaks kind es i (integer z)) tt (λ x. x) (λ x. x) (λ x. x)
row_no_table kind es i (float x) e = kind_only (RowBreaks kind es i (float x)) tt (λ x. x) (λ x. x) (λ x. x)
row_no_table kind es i (boolean b) e = kind_only (RowBreaks kind es i (boolean b)) tt (λ x. x) (λ x. x) (λ x. x)
row_no_table kind es i (datetime t) e = kind_only (RowBreaks kind es i (datetime t)) tt (λ x. x) (λ x. x) (λ x. x)
row_no_table kind es i (array ds) e = kind_only (RowBreaks kind es i (array ds)) tt (λ x. x) (λ x. x) (λ x. x)
row_no_table kind es i (table ms) e = absurd cc

pub table_is : (d : Data) (ms : Members) → Some ms ≡ as_table d → d ≡ table ms
table_is (string s) ms e = absurd cc
table_is (integer z) ms e = absurd cc
table_is (float x) ms e = absurd cc
table_is (boolean b) ms e = absurd cc
table_is (datetime t) ms e = absurd cc
table_is (array ds) ms e = absurd cc
table_is (table ns) ms e = cc

abbrev pub made : List ℕ → ℕ → ℕ → ℕ → Settings
made h p c m = record { host = h; port = p; claim_timeout = c; max_tasks = m }

pub settings_are : (h : List ℕ) (p c m : ℕ) (s : Settings) → h ≡ s.host → p ≡ s.port → c ≡ s.claim_timeout → m ≡ s.max_tasks → made h p c m ≡ s
settings_are h p c m s a b d e = rw (a, b, d, e) refl

-- ---- `[farm]`

pub farm_unknown : (ms : Members) → has_only farm_keys ms ≡ false → IsLeastRule (FarmBreaks (table ms)) UnknownKey
farm_unknown ms h = record {
  breaks = h;
  least = below (FarmBreaks (table ms)) 2 (λ lt x. x) (λ lt. absurd (omega arith)) (λ lt. absurd (omega arith)) (λ lt. absurd (omega arith))
      (λ lt. absurd (omega arith)) (λ lt. absurd (omega arith)) (λ lt. absurd (omega arith)) (λ lt. absurd (omega arith)) (λ lt. absurd (omega arith));
}

pub farm_kind : (ms : Members) → has_only farm_keys ms ≡ true → ¬ HasFarmKinds ms → IsLeastRule (FarmBreaks (table ms)) WrongKind
farm_kind ms only h = record {
  breaks = h;
  least = below (FarmBreaks (table ms)) 4 (λ lt x. x) (λ lt x. false≢true (sym x ∙ only)) (λ lt x. x) (λ lt. absurd (omega arith))
      (λ lt. absurd (omega arith)) (λ lt. absurd (omega arith)) (λ lt. absurd (omega arith)) (λ lt. absurd (omega arith)) (λ lt. absurd (omega arith));
}

pub farm_form : (ms : Members) → has_only farm_keys ms ≡ true → HasFarmKinds ms → ¬ HasFarmForms ms → IsLeastRule (FarmBreaks (table ms)) OutOfForm
farm_form ms only kinds h = record {
  breaks = h;
  least = below (FarmBreaks (table ms)) 5 (λ lt x. x) (λ lt x. false≢true (sym x ∙ only)) (λ lt x. x) (λ lt x. x kinds)
      (λ lt. absurd (omega arith)) (λ lt. absurd (omega arith)) (λ lt. absurd (omega arith)) (λ lt. absurd (omega arith)) (λ lt. absurd (omega arith));
}

pub farm_sound : (ms : Members) → has_only farm_keys ms ≡ true → HasFarmKinds ms → HasFarmForms ms → (rule : Rule) → ¬ FarmBreaks (table ms) rule
farm_sound ms only kinds forms NotToml = λ x. x
farm_sound ms only kinds forms UnknownKey = λ x. false≢true (sym x ∙ only)
farm_sound ms only kinds forms MissingKey = λ x. x
farm_sound ms only kinds forms WrongKind = λ x. x kinds
farm_sound ms only kinds forms OutOfForm = λ x. x forms
farm_sound ms only kinds forms RepeatedId = λ x. x
farm_sound ms only kinds forms ParameterCycle = λ x. x
farm_sound ms only kinds forms NotJson = λ x. x
farm_sound ms only kinds forms TooLong = λ x. x

-- ---- a row

row_unknown : {X : Type 0} (kind : Kind X) (es : List X) (i : ℕ) (ms : Members) → has_only kind.keys ms ≡ false → IsLeastRule (RowBreaks kind es i (table ms)) UnknownKey
row_unknown kind es i ms h = record {
  breaks = h;
  least = below (RowBreaks kind es i (table ms)) 2 (λ lt x. x) (λ lt. absurd (omega arith)) (λ lt. absurd (omega arith)) (λ lt. absurd (omega arith))
      (λ lt. absurd (omega arith)) (λ lt. absurd (omega arith)) (λ lt. absurd (omega arith)) (λ lt. absurd (omega arith)) (λ lt. absurd (omega arith));
}

row_missing : {X : Type 0} (kind : Kind X) (es : List X) (i : ℕ) (ms : Members) → has_only kind.keys ms ≡ true → ¬ kind.HasKeys ms → IsLeastRule (RowBreaks kind es i (table ms)) MissingKey
row_missing kind es i ms only h = record {
  breaks = h;
  least = below (RowBreaks kind es i (table ms)) 3 (λ lt x. x) (λ lt x. false≢true (sym x ∙ only)) (λ lt. absurd (omega arith)) (λ lt. absurd (omega arith))
      (λ lt. absurd (omega arith)) (λ lt. absurd (omega arith)) (λ lt. absurd (omega arith)) (λ lt. absurd (omega arith)) (λ lt. absurd (omega arith));
}

row_wrong : {X : Type 0} (kind : Kind X) (es : List X) (i : ℕ) (ms : Members) → has_only kind.keys ms ≡ true → kind.HasKeys ms → ¬ kind.HasKinds ms → IsLeastRule (RowBreaks kind es i (table ms)) WrongKind
row_wrong kind es i ms only keys h = record {
  breaks = h;
  least = below (RowBreaks kind es i (table ms)) 4 (λ lt x. x) (λ lt x. false≢true (sym x ∙ only)) (λ lt x. x keys) (λ lt. absurd (omega arith))
      (λ lt. absurd (omega arith)) (λ lt. absurd (omega arith)) (λ lt. absurd (omega arith)) (λ lt. absurd (omega arith)) (λ lt. absurd (omega arith));
}

pub row_form : {X : Type 0} (kind : Kind X) (es : List X) (i : ℕ) (ms : Members) → has_only kind.keys ms ≡ true → kind.HasKeys ms → kind.HasKinds ms → ¬ HasRowForm kind i (kind.says ms)
    → IsLeastRule (RowBreaks kind es i (table ms)) OutOfForm
row_form kind es i ms only keys kinds h = record {
  breaks = h;
  least = below (RowBreaks kind es i (table ms)) 5 (λ lt x. x) (λ lt x. false≢true (sym x ∙ only)) (λ lt x. x keys) (λ lt x. x kinds)
      (λ lt. absurd (omega arith)) (λ lt. absurd (omega arith)) (λ lt. absurd (omega arith)) (λ lt. absurd (omega arith)) (λ lt. absurd (omega arith));
}

pub row_repeated : {X : Type 0} (kind : Kind X) (es : List X) (i : ℕ) (ms : Members) → HasRow kind ms → HasRowForm kind i (kind.says ms) → Any (λ other. kind.id_of other ≡ kind.id_of (kind.says ms)) es
    → IsLeastRule (RowBreaks kind es i (table ms)) RepeatedId
row_repeated kind es i ms has form h = record {
  breaks = h;
  least = below (RowBreaks kind es i (table ms)) 6 (λ lt x. x) (λ lt x. false≢true (sym x ∙ has.only)) (λ lt x. x has.keys) (λ lt x. x has.kinds)
      (λ lt x. x form) (λ lt. absurd (omega arith)) (λ lt. absurd (omega arith)) (λ lt. absurd (omega arith)) (λ lt. absurd (omega arith));
}

row_unread : {X : Type 0} (kind : Kind X) (es : List X) (i : ℕ) (ms : Members) → HasRow kind ms → HasRowForm kind i (kind.says ms) → ¬ Any (λ other. kind.id_of other ≡ kind.id_of (kind.says ms)) es
    → ¬ kind.HasJson (kind.says ms) → IsLeastRule (RowBreaks kind es i (table ms)) NotJson
row_unread kind es i ms has form apart h = record {
  breaks = h;
  least = below (RowBreaks kind es i (table ms)) 8 (λ lt x. x) (λ lt x. false≢true (sym x ∙ has.only)) (λ lt x. x has.keys) (λ lt x. x has.kinds)
      (λ lt x. x form) (λ lt. apart) (λ lt x. x) (λ lt. absurd (omega arith)) (λ lt. absurd (omega arith));
}

pub row_sound : {X : Type 0} (kind : Kind X) (es : List X) (i : ℕ) (ms : Members) → HasRow kind ms → HasRowForm kind i (kind.says ms) → ¬ Any (λ other. kind.id_of other ≡ kind.id_of (kind.says ms)) es
    → kind.HasJson (kind.says ms) → (rule : Rule) → ¬ RowBreaks kind es i (table ms) rule
row_sound kind es i ms has form apart json NotToml = λ x. x
row_sound kind es i ms has form apart json UnknownKey = λ x. false≢true (sym x ∙ has.only)
row_sound kind es i ms has form apart json MissingKey = λ x. x has.keys
row_sound kind es i ms has form apart json WrongKind = λ x. x has.kinds
row_sound kind es i ms has form apart json OutOfForm = λ x. x form
row_sound kind es i ms has form apart json RepeatedId = apart
row_sound kind es i ms has form apart json ParameterCycle = λ x. x
row_sound kind es i ms has form apart json NotJson = λ x. x json
row_sound kind es i ms has form apart json TooLong = λ x. x

-- what the keys of a row refuse, the row refuses
pub refuses_row : {X : Type 0} (kind : Kind X) (es : List X) (i : ℕ) (ms : Members) (e : RowFault) → RefusesKeys kind ms e → RefusesRow (RowBreaks kind es i (table ms)) e
refuses_row kind es i ms (rows.Breaks NotToml) h = absurd h
refuses_row kind es i ms (rows.Breaks UnknownKey) h = row_unknown kind es i ms h
refuses_row kind es i ms (rows.Breaks MissingKey) h = row_missing kind es i ms h.0 h.1
refuses_row kind es i ms (rows.Breaks WrongKind) h = row_wrong kind es i ms h.0 h.1 h.2
refuses_row kind es i ms (rows.Breaks OutOfForm) h = row_form kind es i ms h.0.only h.0.keys h.0.kinds (λ form. h.1 form.form)
refuses_row kind es i ms (rows.Breaks RepeatedId) h = absurd h
refuses_row kind es i ms (rows.Breaks ParameterCycle) h = absurd h
refuses_row kind es i ms (rows.Breaks NotJson) h = absurd h
refuses_row kind es i ms (rows.Breaks TooLong) h = absurd h
refuses_row kind es i ms rows.NoMemory h = tt

-- ---- a row behind rows with these ids

pub table_refused : {X : Type 0} (kind : Kind X) (ids : BTreeSet (String Global)) (i : ℕ) (d : Data) → None ≡ as_table d → RefusesRowBehind kind ids i d (rows.Breaks WrongKind)
table_refused kind ids i d e = λ es are. row_no_table kind es i d e

pub keys_refused : {X : Type 0} (kind : Kind X) (ids : BTreeSet (String Global)) (i : ℕ) (d : Data) (ms : Members) (fault : RowFault) → Some ms ≡ as_table d → RefusesKeys kind ms fault
    → RefusesRowBehind kind ids i d fault
keys_refused kind ids i d ms fault is h = λ es are. subst (λ x. RefusesRow (RowBreaks kind es i x) fault) (sym (table_is d ms is)) (refuses_row kind es i ms fault h)

pub form_refused : {X : Type 0} (kind : Kind X) (ids : BTreeSet (String Global)) (i : ℕ) (d : Data) (ms : Members) → Some ms ≡ as_table d → HasRow kind ms → ¬ HasRowForm kind i (kind.says ms)
    → RefusesRowBehind kind ids i d (rows.Breaks OutOfForm)
form_refused kind ids i d ms is has off = λ es are.
    subst (λ x. IsLeastRule (RowBreaks kind es i x) OutOfForm) (sym (table_is d ms is)) (row_form kind es i ms has.only has.keys has.kinds off)

any_map : {X : Type 0} (p : List ℕ → Bool) (f : X → List ℕ) (xs : List X) → list_any p (map f xs) ≡ list_any (λ x. p (f x)) xs
any_map p f [] = refl
any_map p f (x ∷ xs) = ap (λ (b : Bool). p (f x) || b) (any_map p f xs)

module _ {X : Type 0} (kind : Kind X) (ids : BTreeSet (String Global)) (i : ℕ) (d : Data) (ms : Members) (is : Some ms ≡ as_table d) (has : HasRow kind ms) (form : HasRowForm kind i (kind.says ms)) (b : Bool) where
  looked : (es : List X) → AreIdsOf (map kind.id_of es) ids → ((used : List (List ℕ)) → AreIdsOf used ids → b ≡ list_any (λ other. bytes_eq (kind.id_of (kind.says ms)) other) used)
      → b ≡ list_any (λ e. bytes_eq (kind.id_of (kind.says ms)) (kind.id_of e)) es
  looked es are found = found (map kind.id_of es) are ∙ any_map (λ other. bytes_eq (kind.id_of (kind.says ms)) other) kind.id_of es

  pub id_refused : b ≡ true → ((used : List (List ℕ)) → AreIdsOf used ids → b ≡ list_any (λ other. bytes_eq (kind.id_of (kind.says ms)) other) used)
      → RefusesRowBehind kind ids i d (rows.Breaks RepeatedId)
  id_refused there found = λ es are.
      let a = Any-from_list_any (λ e. bytes_eq (kind.id_of (kind.says ms)) (kind.id_of e)) es (sym (looked es are found) ∙ there) in
      subst (λ x. IsLeastRule (RowBreaks kind es i x) RepeatedId) (sym (table_is d ms is))
      (row_repeated kind es i ms has form (a.0, a.1, a.2, a.3, sym ((bytes_eq-Decides (kind.id_of (kind.says ms)) (kind.id_of a.1)).0 a.4)))

  apart : b ≡ false → ((used : List (List ℕ)) → AreIdsOf used ids → b ≡ list_any (λ other. bytes_eq (kind.id_of (kind.says ms)) other) used)
      → (es : List X) → AreIdsOf (map kind.id_of es) ids → ¬ Any (λ other. kind.id_of other ≡ kind.id_of (kind.says ms)) es
  apart absent found es are a =
      false≢true (sym absent ∙ (looked es are found ∙ list_any-from_Any (λ e. bytes_eq (kind.id_of (kind.says ms)) (kind.id_of e)) es
      (a.0, a.1, a.2, a.3, (bytes_eq-Decides (kind.id_of (kind.says ms)) (kind.id_of a.1)).1 (sym a.4))))

  pub json_refused : b ≡ false → ((used : List (List ℕ)) → AreIdsOf used ids → b ≡ list_any (λ other. bytes_eq (kind.id_of (kind.says ms)) other) used)
      → ¬ kind.HasJson (kind.says ms) → RefusesRowBehind kind ids i d (rows.Breaks NotJson)
  json_refused absent found unread = λ es are.
      subst (λ x. IsLeastRule (RowBreaks kind es i x) NotJson) (sym (table_is d ms is)) (row_unread kind es i ms has form (apart absent found es are) unread)

  pub row_taken : b ≡ false → ((used : List (List ℕ)) → AreIdsOf used ids → b ≡ list_any (λ other. bytes_eq (kind.id_of (kind.says ms)) other) used)
      → kind.HasJson (kind.says ms) → IsSoundRow kind ids i d
  row_taken absent found json = λ es are.
      subst (λ x. (rule : Rule) → ¬ RowBreaks kind es i x rule) (sym (table_is d ms is)) (row_sound kind es i ms has form (apart absent found es are) json)
