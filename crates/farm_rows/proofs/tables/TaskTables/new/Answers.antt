use Rattle.std.proofs.Common.{List, [], bytes_eq, refl, sym, subst, arith}
use Rattle.std.proofs.lemmas.Map.Keys.{IsDistinct-from_apart}
use Rattle.task_index.specs.Contents.{HaveOwnIds}
use Rattle.task_index.specs.PlaceLists.{KeptPlaces, AreListed}
use Rattle.task_index.proofs.RoomLemmas.{room-0}
use Rattle.farm_rows.proofs.tables.TaskTables.new.Goals as goal

-- no task has an id
none-own : HaveOwnIds []
none-own = IsDistinct-from_apart bytes_eq [] (λ i j d less within. absurd (omega arith))

none-listed : AreListed [] []
none-listed = record {
  waited = record { long = refl; stand = refl; places = λ place row is. cc };
  grouped = λ group place is. cc;
}

pub invariant_of-result-2 : goal.invariant_of-result-2
invariant_of-result-2 c =
    rw c.new.ensures.items (record {
      kept = record {
        told = omega arith;
        few = omega arith;
        own = none-own;
        none = refl;
        fit = refl;
        drawn = omega arith;
        room = omega (arith, room-0);
      };
      indexed = c.new-2.ensures;
      listed = subst (λ (ls : List KeptPlaces). AreListed ls []) (sym c.new-3.ensures) none-listed;
    })
