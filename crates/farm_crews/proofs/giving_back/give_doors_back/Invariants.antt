use Rattle.std.proofs.Common.{◌≡◌, ◌+◌, map, length}
use Rattle.houses.specs.House.{all_left}
use Rattle.farm_crews.proofs.giving_back.give_doors_back.Given as goal

-- so many doors are back, and the others are in the row
abbrev pub invariant-doors : goal.invariant-doors
invariant-doors g l = record {
  lends : g.H.House.lends l.house ≡ record (g.H.House.lends l.initial.house) { doors = (g.H.House.lends l.house).doors };
  left : all_left (g.H.House.lends l.initial.house).doors (map (λ worker. worker.door) l.initial.row.items) ≡ all_left (g.H.House.lends l.house).doors (map (λ worker. worker.door) l.row.items);
  counted : l._given + length l.row.items ≡ length l.initial.row.items;
  refusals : g.H.House.refusals l.house ≡ g.H.House.refusals l.initial.house;
}
