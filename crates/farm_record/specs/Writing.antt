-- What is written of a definition, for private clauses.
use Rattle.std.specs.Prelude.{ℕ, List}
use Rattle.task_types.specs.declared.change.Creation.{Creation}
use Rattle.task_types.specs.declared.change.Kind.TheVariants as kinds
use Rattle.farm_record.specs.Records.{IsFullText, IsDefinitionText, IsSaid}

-- the text of its full form, from which it can be read where some document says it
pub record IsWrittenText (c : Creation) (text : List ℕ) : Type 0 where
  pub full : IsFullText c text
  pub said : IsSaid (kinds.Create c) → IsDefinitionText c text
