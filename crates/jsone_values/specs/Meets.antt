-- What a function that makes a value answers.
use Rattle.std.specs.Prelude.{ℕ, ◌<◌, Option, Some, None, Result, Ok, Err}
use Rattle.farm_text.specs.Document.{Document}
use Rattle.farm_text.specs.Doc.{document}
use Rattle.farm_text.specs.declared.doc.Doc.{Doc}
use Rattle.jsone_values.specs.declared.faults.Fault.{Fault}
use Rattle.jsone_values.specs.declared.faults.Stop.{Stop}
use Rattle.jsone_values.specs.declared.faults.Stop.TheVariants.{Fault as a_fault, NoMemory}
use Rattle.jsone_values.specs.Weights.{weight}

-- an outcome of this kind, unless memory runs out
abbrev pub Meets : (Result Document Fault → Type 0) → Result Doc Stop → Type 0
Meets IsOutcome (Ok d) = IsOutcome (Ok (document d))
Meets IsOutcome (Err (a_fault f)) = IsOutcome (Err f)
Meets IsOutcome (Err NoMemory) = Unit {0}

-- the same, but that of an outcome that weighs more than so much no value need be made
abbrev pub MeetsWithin : ℕ → (Result Document Fault → Type 0) → Result (Option Doc) Stop → Type 0
MeetsWithin most IsOutcome (Ok (Some d)) = IsOutcome (Ok (document d))
MeetsWithin most IsOutcome (Ok None) = (d : Document) × IsOutcome (Ok d) × (most < weight d)
MeetsWithin most IsOutcome (Err (a_fault f)) = IsOutcome (Err f)
MeetsWithin most IsOutcome (Err NoMemory) = Unit {0}
