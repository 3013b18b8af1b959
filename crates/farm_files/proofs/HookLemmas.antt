-- Hooks, beside what their rows say.
use Rattle.std.proofs.Common.{◌≡◌, ℕ, suc, List, [], ◌∷◌, ◌++◌, Some, Result, Ok, Err, String, Global, refl, sym, ap, ◌∙◌, subst}
use Rattle.std.specs.BTreeSet.{BTreeSet}
use Rattle.std.specs.Prelude.{slice_get, MatchResult}
use Rattle.farm_text.specs.Document.{Document, data_of}
use Rattle.farm_text.specs.Reading.{IsJson, unwhole}
use Rattle.hawk_auth.proofs.DataLemmas.{IsJson-one}
use Rattle.hook_book.specs.declared.hook.Hook.{Hook}
use Rattle.hook_book.specs.Hooks.{HookData, hook_data}
use Rattle.toml.specs.Data.{Data, Members, as_table}
use Rattle.farm_files.specs.declared.fault.Rule.TheVariants.{NotToml, UnknownKey, MissingKey, WrongKind, OutOfForm, RepeatedId, ParameterCycle, NotJson, TooLong}
use Rattle.farm_files.specs.declared.fault.RowFault.{RowFault}
use Rattle.farm_files.specs.declared.fault.RowFault.TheVariants as rows
use Rattle.farm_files.specs.Hooks.{HookText, hook_in, hook_rows, name_of, IsTemplateText, HasTemplate, IsHookFrom, AreHooks}
use Rattle.farm_files.specs.Parts.{IsSoundRow, RefusesJson, RefusesRowBehind}
use Rattle.farm_files.specs.Rows.{says_of}
use Rattle.farm_files.proofs.RuleLemmas.{table_is}

hook_is : (h k : HookData) → h.group ≡ k.group → h.id ≡ k.id → h.template ≡ k.template → h ≡ k
hook_is h k group id template =
    let made : List ℕ → List ℕ → Document → HookData = λ g i t. record { group = g; id = i; template = t } in
    ap (λ x. made x h.id h.template) group ∙ ap (λ x. made k.group x h.template) id ∙ ap (made k.group k.id) template

hook_one : (t : HookText) (h k : HookData) → IsHookFrom t h → IsHookFrom t k → h ≡ k
hook_one t h k p q = hook_is h k (p.group ∙ sym q.group) (p.id ∙ sym q.id) (IsJson-one t.task h.template k.template p.template.json q.template.json)

-- rows say one list of hooks
pub hooks_one : (ts : List HookText) (hs ks : List HookData) → AreHooks ts hs → AreHooks ts ks → hs ≡ ks
hooks_one [] [] [] p q = refl
hooks_one [] [] (k ∷ ks) p q = absurd q
hooks_one [] (h ∷ hs) ks p q = absurd p
hooks_one (t ∷ ts) [] ks p q = absurd p
hooks_one (t ∷ ts) (h ∷ hs) [] p q = absurd q
hooks_one (t ∷ ts) (h ∷ hs) (k ∷ ks) p q = ap (λ x. x ∷ hs) (hook_one t h k p.0 q.0) ∙ ap (λ x. k ∷ x) (hooks_one ts hs ks p.1 q.1)

-- one more
pub hooks_more : (ts : List HookText) (hs : List HookData) (t : HookText) (h : HookData) → AreHooks ts hs → IsHookFrom t h → AreHooks (ts ++ t ∷ []) (hs ++ h ∷ [])
hooks_more [] [] t h are is = (is, tt)
hooks_more [] (k ∷ hs) t h are is = absurd are
hooks_more (u ∷ ts) [] t h are is = absurd are
hooks_more (u ∷ ts) (k ∷ hs) t h are is = (are.0, hooks_more ts hs t h are.1 is)

-- where each row has a template, there are such hooks
pub some_hooks : (ts : List HookText) → ((k : ℕ) (t : HookText) → slice_get ts k ≡ Some t → ¬ (¬ HasTemplate t)) → ((hs : List HookData) → ¬ AreHooks ts hs) → ⊥
some_hooks [] have none = none [] tt
some_hooks (t ∷ ts) have none =
    have 0 t refl
    (λ p. some_hooks ts (λ k u e. have (suc k) u e)
    (λ hs are. none (record { group = t.group; id = t.id; template = p.0 } ∷ hs) (record { group = refl; id = refl; template = p.1 }, are)))

pub named : (t : HookText) (name group id : List ℕ) → name ≡ group ++ 47 ∷ id → group ≡ t.group → id ≡ t.id → name ≡ name_of t
named t name group id is group_is id_is = is ∙ ap (λ g. g ++ 47 ∷ id) group_is ∙ ap (λ i. t.group ++ 47 ∷ i) id_is

-- a text with a number that is not whole is no template
pub not_whole : (text path : List ℕ) (d : _) (more : List (List ℕ)) → IsJson text d → unwhole d ≡ path ∷ more → (template : Document) → ¬ IsTemplateText text template
not_whole text path d more json broken template is =
    let same : Some d ≡ Some (data_of template) = sym json.1 ∙ is.json.1 in
    let one : d ≡ data_of template = cc in
    let none : unwhole d ≡ [] = ap unwhole one ∙ is.whole in
    absurd (cc)

-- ---- what the template of a row decides

module _ (names : BTreeSet (String Global)) (i : ℕ) (d : Data) (ms : Members) (said : HookText) (is : Some ms ≡ as_table d) (same : said ≡ hook_in ms)
    (taken : HasTemplate (hook_in ms) → IsSoundRow hook_rows names i d) (refused : ¬ HasTemplate (hook_in ms) → RefusesRowBehind hook_rows names i d (rows.Breaks NotJson)) where
  pub row_made : (r : Result Hook RowFault) → MatchResult r (λ hook. IsHookFrom said (hook_data hook)) (RefusesJson said.task)
      → MatchResult r (λ hook. IsSoundRow hook_rows names i d × IsHookFrom (says_of hook_rows d) (hook_data hook)) (RefusesRowBehind hook_rows names i d)
  row_made (Ok hook) h =
      let from : IsHookFrom (hook_in ms) (hook_data hook) = subst (λ t. IsHookFrom t (hook_data hook)) same h in
      (taken ((hook_data hook).template, from.template), subst (λ x. IsHookFrom (says_of hook_rows x) (hook_data hook)) (sym (table_is d ms is)) from)
  row_made (Err (rows.Breaks NotJson)) h = refused (λ has. h has.0 (subst (λ (t : HookText). IsTemplateText t.task has.0) (sym same) has.1))
  row_made (Err (rows.Breaks NotToml)) h = absurd h
  row_made (Err (rows.Breaks UnknownKey)) h = absurd h
  row_made (Err (rows.Breaks MissingKey)) h = absurd h
  row_made (Err (rows.Breaks WrongKind)) h = absurd h
  row_made (Err (rows.Breaks OutOfForm)) h = absurd h
  row_made (Err (rows.Breaks RepeatedId)) h = absurd h
  row_made (Err (rows.Breaks ParameterCycle)) h = absurd h
  row_made (Err (rows.Breaks TooLong)) h = absurd h
  row_made (Err rows.NoMemory) h = λ es are. tt
