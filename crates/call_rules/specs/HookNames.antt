-- The names of hooks (their forms are this project's own).
use Rattle.std.specs.Prelude.{◌≡◌, ℕ, ◌⊎◌, List, ◌∷◌, ◌++◌}
use Rattle.task_types.specs.Forms.{HasForm, IsIdentifierByte}

-- the class `[A-Za-z0-9_/-]`
abbrev pub IsHookByte : ℕ → Type 0
IsHookByte b = IsIdentifierByte b ⊎ (b ≡ 47)

-- the id of a group of hooks: 1 to 1,000 of `[A-Za-z0-9_-]`
abbrev pub IsHookGroupId : List ℕ → Type 0
IsHookGroupId text = HasForm 1000 IsIdentifierByte text

-- the id of a hook in its group: 1 to 1,000 of `[A-Za-z0-9_/-]`
abbrev pub IsHookId : List ℕ → Type 0
IsHookId text = HasForm 1000 IsHookByte text

-- a hook as scopes and answers name it: its group, a slash and its id
abbrev pub hook_name : List ℕ → List ℕ → List ℕ
hook_name group id = group ++ 47 ∷ id
