-- The hooks of a farm, as they are written into its settings (the Taskcluster reference, 'Hooks').
use Rattle.std.specs.Prelude.{ℕ, Bool, ◌&&◌, List, map, find, Option, bytes_eq}
use Rattle.farm_text.specs.Doc.{document}
use Rattle.farm_text.specs.Document.{Document}
use Rattle.hook_book.specs.declared.hook.Hook.{Hook}

-- a hook: its group, its id in that, and the template of the tasks that it makes
pub record HookData : Type 0 where
  pub group : List ℕ
  pub id : List ℕ
  pub template : Document

-- the hook as plain data
abbrev pub hook_data : Hook → HookData
hook_data hook = record { group = hook.group; id = hook.id; template = document hook.template }

-- hooks as plain data
abbrev pub hooks_data : List Hook → List HookData
hooks_data hooks = map hook_data hooks

-- whether a hook has this group and this id
abbrev pub is_named : List ℕ → List ℕ → HookData → Bool
is_named group id hook = bytes_eq hook.group group && bytes_eq hook.id id

-- the first of these hooks that has this group and this id
abbrev pub hook_named : List ℕ → List ℕ → List HookData → Option HookData
hook_named group id hooks = find (is_named group id) hooks
