use Rattle.std.proofs.Common.{◌≡◌, vec_capacity, All, map, length}
use Rattle.farm_crews.specs.Crew.{station_by, IsStill, IsBeside}
use Rattle.farm_crews.proofs.crew.add_others.Given as goal

-- so many workers stand beside the first, and no twin failed
abbrev pub invariant-twins : goal.invariant-twins
invariant-twins g l = record {
  still : IsStill (station_by g.D.Listener g.C.Clock g.I.Draws l.initial.first) (station_by g.D.Listener g.C.Clock g.I.Draws l.first);
  beside : All (IsBeside (station_by g.D.Listener g.C.Clock g.I.Draws l.first)) (map (station_by g.D.Listener g.C.Clock g.I.Draws) l.others.items);
  capacity : vec_capacity l.others ≡ vec_capacity l.initial.others;
  counted : length l.others.items ≡ l._made;
  kept : g.D.Listener.faults l.first.door ≡ g.D.Listener.faults l.initial.first.door;
}
