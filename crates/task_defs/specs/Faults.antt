-- The fault that is told of a definition: the least rule that a key breaks, at the first such key.
use Rattle.std.specs.Prelude.{◌≡◌, ℕ, ◌⊎◌, List, [], ◌∷◌}
use Rattle.scope_sets.specs.Scopes.{IsBefore}
use Rattle.task_defs.specs.declared.fault.DefFault.{DefFault}
use Rattle.task_defs.specs.declared.fault.DefError.{DefError}
use Rattle.task_defs.specs.declared.fault.DefError.TheVariants.{Fault, NoMemory}

-- a rule: its number, and the keys that break it
pub record Rule : Type 1 where
  pub number : ℕ
  pub Broken : List ℕ → Type 0

-- no key breaks it
abbrev pub Holds : (List ℕ → Type 0) → Type 0
Holds Broken = (key : List ℕ) → ¬ Broken key

-- the first key by bytes that breaks it
pub record IsFirstKey (Broken : List ℕ → Type 0) (key : List ℕ) : Type 0 where
  pub breaks : Broken key
  pub first : (other : List ℕ) → IsBefore other key → ¬ Broken other

-- the fault that is told by rules in their order: the first rule that some key breaks, at the first such key
abbrev pub IsFault : List Rule → DefFault → Type 0
IsFault [] f = ⊥
IsFault (r ∷ rs) f = ((f.rule ≡ r.number) × IsFirstKey r.Broken f.key) ⊎ (Holds r.Broken × IsFault rs f)

-- no key breaks any of the rules
abbrev pub AllHold : List Rule → Type 0
AllHold [] = Unit {0}
AllHold (r ∷ rs) = Holds r.Broken × AllHold rs

-- why nothing was read: a fault of the rules, or want of memory
abbrev pub Refuses : List Rule → DefError → Type 0
Refuses rs (Fault f) = IsFault rs f
Refuses rs NoMemory = Unit {0}

-- an error tells this rule and this key, if it is not want of memory
abbrev pub Tells : ℕ → List ℕ → DefError → Type 0
Tells number key (Fault f) = (f.rule ≡ number) × (f.key ≡ key)
Tells number key NoMemory = Unit {0}

-- the same of one rule alone
abbrev pub Breaks : ℕ → (List ℕ → Type 0) → DefError → Type 0
Breaks number Broken (Fault f) = (f.rule ≡ number) × IsFirstKey Broken f.key
Breaks number Broken NoMemory = Unit {0}
