use Rattle.std.proofs.Common.{take}
use Rattle.hawk_auth.specs.Found.{IsFound}
use Rattle.hawk_auth.specs.Header.{attributes_data, values_of}
use Rattle.hawk_auth.proofs.header.find.Given as goal

abbrev pub invariant-loop-attribute : goal.invariant-loop-attribute
invariant-loop-attribute l = IsFound (values_of l.name (attributes_data (take l.attribute-index l.attributes))) l.found
