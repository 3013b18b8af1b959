-- The moment of a call, and what the tables keep after it.
use Rattle.std.specs.Prelude.{ℕ, max, Option, Some, None}
use Rattle.task_types.specs.declared.change.Change.{Change}
use Rattle.task_index.specs.Changes.{applied}
use Rattle.task_index.specs.Contents.{Contents}
use Rattle.farm_asks.specs.Questions.{Asking}

-- the moment of a call: the greater of the clock's and the last
abbrev pub moment_of : Contents → Asking → ℕ
moment_of contents asking = max asking.moment contents.last

-- a moment is reached
abbrev pub reached : Contents → ℕ → Contents
reached contents moment = record contents { last = moment }

-- what is kept after a call at a moment, with its change if it has one
abbrev pub changed : Contents → ℕ → Option Change → Contents
changed contents moment None = reached contents moment
changed contents moment (Some change) = applied contents change
