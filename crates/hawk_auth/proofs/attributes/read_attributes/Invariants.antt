use Rattle.std.proofs.Common.{◌≡◌, List, ◌++◌, length}
use Rattle.hawk_auth.specs.Header.{AttributeData, attributes_data, IsAttributes}
use Rattle.hawk_auth.proofs.attributes.read_attributes.Given as goal

abbrev pub invariant-attributes : goal.invariant-attributes
invariant-attributes l =
    ((more : List AttributeData) → IsAttributes more l.rest → IsAttributes (attributes_data l.found.items ++ more) l.fn.text)
    × ((all : List AttributeData) → IsAttributes all l.fn.text → (more : List AttributeData) × (all ≡ attributes_data l.found.items ++ more) × IsAttributes more l.rest)

abbrev pub decreases-attributes : goal.decreases-attributes
decreases-attributes l = length l.rest
