-- The forms of a definition's texts (this project's profile, formed after the Taskcluster reference).
use Rattle.std.specs.Prelude.{ℕ, ◌<◌, ◌≤◌, ◌⊎◌, ◌≡◌, List, ◌∷◌, ◌++◌, length, All}
use Rattle.std.specs.Char.{IsAsciiAlphanumeric}
use Rattle.scope_sets.specs.Scopes.{IsPrintable}

-- the class `[A-Za-z0-9_-]`
abbrev pub IsIdentifierByte : ℕ → Type 0
IsIdentifierByte b = IsAsciiAlphanumeric b ⊎ (b ≡ 95) ⊎ (b ≡ 45)

-- the class `[A-Za-z0-9._/-]`
abbrev pub IsProjectByte : ℕ → Type 0
IsProjectByte b = IsAsciiAlphanumeric b ⊎ (b ≡ 46) ⊎ (b ≡ 95) ⊎ (b ≡ 47) ⊎ (b ≡ 45)

-- 1 to so many bytes of a class
pub record HasForm (most : ℕ) (Class : ℕ → Type 0) (text : List ℕ) : Type 0 where
  pub some : 0 < length text
  pub short : length text ≤ most
  pub bytes : All Class text

-- an identifier: 1 to 38 of `[A-Za-z0-9_-]`
abbrev pub IsIdentifier : List ℕ → Type 0
IsIdentifier text = HasForm 38 IsIdentifierByte text

-- the name of a project: 1 to 500 of `[A-Za-z0-9._/-]`
abbrev pub IsProject : List ℕ → Type 0
IsProject text = HasForm 500 IsProjectByte text

-- a route: 1 to 249 printable bytes
abbrev pub IsRoute : List ℕ → Type 0
IsRoute text = HasForm 249 IsPrintable text

-- the name of a task queue: two identifiers with a slash between them
abbrev pub queue_name : List ℕ → List ℕ → List ℕ
queue_name provisioner worker = provisioner ++ 47 ∷ worker
