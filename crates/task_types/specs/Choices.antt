-- The names of priorities, and of what a task asks of its dependencies (the Taskcluster reference, "Task definition").
use Rattle.std.specs.Prelude.{ℕ, List, [], ◌∷◌, codes, Option}
use Rattle.std.specs.Map.{lookup}
use Rattle.std.specs.Str.{bytes_eq}
use Rattle.task_types.specs.declared.choices.Priority.{Priority}
use Rattle.task_types.specs.declared.choices.Priority.TheVariants.{Highest, VeryHigh, High, Medium, Low, VeryLow, Lowest}
use Rattle.task_types.specs.declared.choices.Requires.{Requires}
use Rattle.task_types.specs.declared.choices.Requires.TheVariants.{AllCompleted, AllResolved}

-- the name of a priority
abbrev pub priority_name : Priority → List ℕ
priority_name Highest = codes "highest"
priority_name VeryHigh = codes "very-high"
priority_name High = codes "high"
priority_name Medium = codes "medium"
priority_name Low = codes "low"
priority_name VeryLow = codes "very-low"
priority_name Lowest = codes "lowest"

-- the priorities, the highest first
abbrev pub priorities : List Priority
priorities = Highest ∷ VeryHigh ∷ High ∷ Medium ∷ Low ∷ VeryLow ∷ Lowest ∷ []

-- the priorities by their names; `normal` is the lowest
abbrev pub priority_names : List (List ℕ × Priority)
priority_names =
    (codes "highest", Highest) ∷ (codes "very-high", VeryHigh) ∷ (codes "high", High) ∷ (codes "medium", Medium)
    ∷ (codes "low", Low) ∷ (codes "very-low", VeryLow) ∷ (codes "lowest", Lowest) ∷ (codes "normal", Lowest) ∷ []

-- the priority that a name means, if it means one
abbrev pub priority_of : List ℕ → Option Priority
priority_of name = lookup (bytes_eq name) priority_names

-- the name of what a task asks of its dependencies
abbrev pub requires_name : Requires → List ℕ
requires_name AllCompleted = codes "all-completed"
requires_name AllResolved = codes "all-resolved"

-- what a name asks of the dependencies, if it asks anything
abbrev pub requires_of : List ℕ → Option Requires
requires_of name = lookup (bytes_eq name) ((codes "all-completed", AllCompleted) ∷ (codes "all-resolved", AllResolved) ∷ [])
