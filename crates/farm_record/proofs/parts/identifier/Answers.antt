use Rattle.std.proofs.Common.{subst}
use Rattle.std.specs.Str.{IsUtf8}
use Rattle.farm_record.proofs.ClaimLemmas.{identifier_utf8}
use Rattle.farm_record.proofs.parts.identifier.Goals as goal

pub returns-in_default : goal.returns-in_default
returns-in_default c = λ a is. c.in_default.ensures.cases.0 (subst IsUtf8 is.1 (identifier_utf8 a is.0))
