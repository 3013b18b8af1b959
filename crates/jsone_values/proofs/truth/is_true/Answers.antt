use Rattle.jsone_values.proofs.TruthLemmas.{list_truth, map_truth}
use Rattle.jsone_values.proofs.truth.is_true.Goals as goal

pub returns-in-List : goal.returns-in-List
returns-in-List c = list_truth c.args.value.now c.in-List.items c.is_empty-in-List.result c.in-List.is c.is_empty-in-List.ensures c.in-List.items.ok.0

pub returns-in-Map : goal.returns-in-Map
returns-in-Map c = map_truth c.args.value.now c.in-Map.members c.is_empty-in-Map.result c.in-Map.is c.is_empty-in-Map.ensures.0 c.is_empty-in-Map.ensures.1
