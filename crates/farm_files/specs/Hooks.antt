-- What the rows of `[[hook]]` say, and which rules they break (this project's own format, in TOML 1.1).
use Rattle.std.specs.Prelude.{◌≡◌, ℕ, true, List, [], ◌∷◌, Option, codes}
use Rattle.farm_text.specs.Document.{Document, data_of}
use Rattle.farm_text.specs.Reading.{IsJson, unwhole}
use Rattle.call_rules.specs.HookNames.{hook_name, IsHookGroupId, IsHookId}
use Rattle.hook_book.specs.Hooks.{HookData}
use Rattle.toml.specs.Data.{Data, Members, get_member}
use Rattle.farm_files.specs.Rows.{Kind, said_in}
use Rattle.farm_files.specs.Values.{has_all, is_text, passes, text_or}

-- the keys of a row; none of them has a default
abbrev pub hook_keys : List (List ℕ)
hook_keys = codes "group" ∷ codes "id" ∷ codes "task" ∷ []

-- what a row says of a hook, with its template as it is written
pub record HookText : Type 0 where
  pub group : List ℕ
  pub id : List ℕ
  pub task : List ℕ

-- what a row's keys say
abbrev pub hook_in : Members → HookText
hook_in ms = record {
  group = text_or [] (get_member (codes "group") ms);
  id = text_or [] (get_member (codes "id") ms);
  task = text_or [] (get_member (codes "task") ms);
}

-- no key is missing
abbrev pub HasHookKeys : Members → Type 0
HasHookKeys ms = has_all hook_keys ms ≡ true

-- each value is of its kind
pub record HasHookKinds (ms : Members) : Type 0 where
  pub group : passes is_text (get_member (codes "group") ms) ≡ true
  pub id : passes is_text (get_member (codes "id") ms) ≡ true
  pub task : passes is_text (get_member (codes "task") ms) ≡ true

-- what a row says is of a hook's form
pub record HasRowHookForm (text : HookText) : Type 0 where
  pub group : IsHookGroupId text.group
  pub id : IsHookId text.id

-- a hook's name: its group, a slash and its id; a group has no slash, so the name tells both
abbrev pub name_of : HookText → List ℕ
name_of text = hook_name text.group text.id

-- the template that a text is: JSON of whole numbers
pub record IsTemplateText (text : List ℕ) (template : Document) : Type 0 where
  pub json : IsJson text (data_of template)
  pub whole : unwhole (data_of template) ≡ []

-- the text is one of a template
abbrev pub HasTemplate : HookText → Type 0
HasTemplate text = (template : Document) × IsTemplateText text.task template

-- the rows of `[[hook]]`
abbrev pub hook_rows : Kind HookText
hook_rows = record { keys = hook_keys; HasKeys = HasHookKeys; HasKinds = HasHookKinds; says = hook_in; HasForm = HasRowHookForm; id_of = name_of; HasJson = HasTemplate }

-- the hook that a row says: its template is the one that is written
pub record IsHookFrom (text : HookText) (hook : HookData) : Type 0 where
  pub group : hook.group ≡ text.group
  pub id : hook.id ≡ text.id
  pub template : IsTemplateText text.task hook.template

-- the hooks that rows say, in their order
abbrev pub AreHooks : List HookText → List HookData → Type 0
AreHooks [] [] = Unit {0}
AreHooks (text ∷ texts) (hook ∷ hooks) = IsHookFrom text hook × AreHooks texts hooks
AreHooks _ _ = ⊥

-- what all rows say, in their order
abbrev pub hooks_in : Option Data → List HookText
hooks_in value = said_in hook_rows value
