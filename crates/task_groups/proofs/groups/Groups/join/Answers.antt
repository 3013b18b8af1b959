use Rattle.std.proofs.Common.{◌≡◌, ℕ, ◌<◌, List, map, Some, option_map, sym, ◌∙◌, ap, subst, vec_capacity}
use Rattle.std.specs.Prelude.{All}
use Rattle.std.specs.Option.{ForSome}
use Rattle.task_groups.specs.Members.{TaskGroup, TaskGroups, Joining, rows_of, last_row}
use Rattle.task_groups.specs.Kept.{shown, joining_of, HaveRisingRows}
use Rattle.task_groups.specs.Placed.{ArePlaced}
use Rattle.task_groups.proofs.GroupLemmas.{rising-joined, rising-of}
use Rattle.task_groups.proofs.PlacedLemmas.{placed-joined}
use Rattle.task_groups.proofs.PageLemmas.{all-below}
use Rattle.task_groups.proofs.groups.Groups.join.Goals as goal

pub invariant_of-self : goal.invariant_of-self
invariant_of-self c =
    let j = c.in-Some.joining in
    let row = c.args.row in
    let held = map shown c.self.inside.groups.items in
    let groups_is : map shown c.self.inside.groups.items ≡ c.args.self.now.groups = ap (λ (g : TaskGroups). g.groups) c.self.view_is in
    let room_is : option_map joining_of c.self.inside.room ≡ c.args.self.now.room = ap (λ (g : TaskGroups). g.room) c.self.view_is in
    let taken : c.self.inside.room ≡ Some c.in-Some.joining = sym c.take.ensures.value ∙ c.in-Some.is in
    let both : Some (joining_of j) ≡ Some (record { group = c.args.group; scheduler = c.args.scheduler.now }) =
    sym (ap (option_map joining_of) taken) ∙ (room_is ∙ c.requires.room) in
    let named : joining_of j ≡ record { group = c.args.group; scheduler = c.args.scheduler.now } = cc in
    let group_is : j.id ≡ c.args.group = ap (λ (a : Joining). a.group) named in
    let P : List ℕ → Type 0 = λ id. ForSome (last_row id c.args.self.now.groups) (λ h. h < row) in
    let Q : List TaskGroup → Type 0 = λ gs. ForSome (last_row j.id gs) (λ h. h < row) in
    let last : ForSome (last_row j.id held) (λ h. h < row) = subst Q (sym groups_is) (subst P (sym group_is) c.requires.last) in
    let below : All (λ h. h < row) (rows_of j.id held) = all-below row (rows_of j.id held) (rising-of j.id held c.self.invariant.rising) last in
    record {
      rising = subst HaveRisingRows (sym c.add_row.ensures) (rising-joined j.id j.scheduler row held c.self.invariant.rising below);
      placed = subst (ArePlaced c.self.inside.places) (sym c.add_row.ensures) (placed-joined c.self.inside.places c.self.inside.groups.items (vec_capacity c.self.inside.groups) row j (c.self.invariant.room_is j taken) c.self.invariant.placed);
      room_is = rw c.take.ensures.after (λ x is. cc);
    }
