use Rattle.std.proofs.Common.{◌≡◌, Some, None, map, position, bytes_eq, sym, ap, ◌∙◌}
use Rattle.task_groups.specs.declared.group.Group.{Group}
use Rattle.task_groups.specs.Kept.{shown}
use Rattle.task_groups.proofs.GroupLemmas.{rows-at, rows-none, rising-of}
use Rattle.task_groups.proofs.group.rows_of.Goals as goal

pub returns-in-Some : goal.returns-in-Some
returns-in-Some c =
    let groups = c.args.groups.now in
    let at : position (λ (group : Group). bytes_eq group.id c.args.id) groups ≡ Some c.in-Some.place = sym c.place_of.ensures ∙ c.in-Some.is in
    record {
      value = c.deref.ensures.value ∙ (ap (λ (g : Group). g.rows.items) (sym c.index-groups-place.is) ∙ rows-at groups c.args.id c.in-Some.place c.index-groups-place.result at c.index-groups-place.is);
      rising = rising-of c.args.id (map shown groups) c.requires.rising;
    }

pub returns-in-None : goal.returns-in-None
returns-in-None c =
    let groups = c.args.groups.now in
    let at : position (λ (group : Group). bytes_eq group.id c.args.id) groups ≡ None = sym c.place_of.ensures ∙ c.in-None.is in
    record { value = rows-none groups c.args.id at; rising = rising-of c.args.id (map shown groups) c.requires.rising }
