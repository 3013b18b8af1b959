use Rattle.std.proofs.Common.{◌≡◌, ◌+◌, min, true, false, List, [], ◌∷◌, ◌++◌, length, ap, sym, subst, ◌∙◌, arith, rules, vec_len, vec_capacity}
use Rattle.std.specs.List.{list_any}
use Rattle.run_states.specs.Rows.{Row}
use Rattle.run_states.specs.declared.run.Run.{Run}
use Rattle.task_types.specs.declared.change.Creation.{Creation}
use Rattle.task_index.specs.Contents.{Contents}
use Rattle.task_index.specs.Changes.{creating}
use Rattle.task_index.specs.Dependencies.{ids_of, depends_on_these}
use Rattle.task_index.specs.Plans.{Room}
use Rattle.task_index.specs.Ready.{is_ready, has_ready}
use Rattle.task_index.specs.Sweep.{fits, IsKept}
use Rattle.task_index.specs.Indexed.{IsIndexOf}
use Rattle.task_index.specs.PlaceLists.{AreListed}
use Rattle.farm_rows.proofs.CreateLemmas.{new-is}
use Rattle.farm_rows.proofs.FitLemmas.{made-few}
use Rattle.task_index.proofs.IdLemmas.{applied-none}
use Rattle.farm_rows.proofs.TableLemmas.{Fits, contents_of, plan-fits, kept-more, named, planned-unknown, planned-stand, applied-made}
use Rattle.farm_rows.proofs.tables.TaskTables.create.Goals as goal

pub keep_listed-requires-clause-stand : goal.keep_listed-requires-clause-stand
keep_listed-requires-clause-stand c =
    let rows = c.self.inside.rows.items in
    subst (λ (rs : List Row). depends_on_these (ids_of rs ++ c.args.row.id ∷ []) c.args.row ≡ true) (sym c.deref.ensures.value)
    (planned-stand c.args.self.now rows c.self.inside.last c.self.inside.next c.args.at c.args.room c.args.row c.self.view_is c.requires)

pub add-requires-clause-room : goal.add-requires-clause-room
add-requires-clause-room c =
    let rows = c.self.inside.rows in
    let brought = vec_capacity c.room.inside.rows in
    let tasks : c.args.room.tasks ≡ min brought (vec_capacity c.room.inside.lists) = ap (λ (r : Room). r.tasks) (sym c.room.view_is) in
    let fits_ : Fits rows.items c.args.at (vec_capacity rows) brought =
    plan-fits c.args.self.now rows.items c.args.at (vec_capacity rows) brought c.args.room c.args.row c.requires (omega arith) (ap (λ (k : Contents). k.rows) c.self.view_is) c.self.invariant.kept.room in
    let len : vec_len rows ≡ length rows.items = search rules in
    let room = fits_.room in
    omega arith

pub overflow_add-self : goal.overflow_add-self
overflow_add-self c =
    let few = made-few c.self.inside.rows.items c.self.invariant.kept.fit in
    let stand = c.self.invariant.kept.few in
    let h = c.self.invariant.kept.drawn in
    let runs = c.runs.ensures.few in
    let same = ap length c.runs.ensures.value in
    omega arith

pub invariant_of-self : goal.invariant_of-self
invariant_of-self c =
    let rows = c.self.inside.rows in
    let brought = vec_capacity c.room.inside.rows in
    let tasks : c.args.room.tasks ≡ min brought (vec_capacity c.room.inside.lists) = ap (λ (r : Room). r.tasks) (sym c.room.view_is) in
    let fits_ : Fits rows.items c.args.at (vec_capacity rows) brought =
    plan-fits c.args.self.now rows.items c.args.at (vec_capacity rows) brought c.args.room c.args.row c.requires (omega arith) (ap (λ (k : Contents). k.rows) c.self.view_is) c.self.invariant.kept.room in
    let row = c.args.row in
    let at = c.args.at in
    let last = c.self.inside.last in
    let next = c.self.inside.next in
    let creation : Creation = record { id = row.id; definition = row.definition } in
    let made = named c.args.self.now rows.items last next at c.args.room row c.self.view_is c.self.invariant.kept.none c.requires in
    let unknown = planned-unknown c.args.self.now rows.items last next at c.args.room row c.self.view_is c.requires in
    let after = applied-made c.args.self.now rows.items c.add.new.list.items last next at row c.self.view_is c.self.invariant.kept.none c.add.ensures.items made in
    let unready : list_any (is_ready c.add.new.list.items) c.add.new.list.items ≡ false = ap has_ready after ∙ applied-none c.args.self.now (creating at creation) c.requires.lawful in
    let fit = ap fits made ∙ (new-is (contents_of rows.items last next) at row.id row.definition).fit in
    record {
      kept =
          subst (λ n. IsKept c.add.new.list.items at (next + n) (vec_capacity c.add.new.list)) (sym (ap length c.runs.ensures.value))
          (kept-more rows.items c.add.new.list.items row last at next
          (vec_capacity rows) brought (vec_capacity c.add.new.list) c.self.invariant.kept fits_ c.add.ensures.items
          fit unready unknown c.add.ensures.capacity);
      indexed =
          subst (λ (rs : List Row). IsIndexOf c.added.new.self rs) (sym c.add.ensures.items)
          (subst (λ (rs : List Row). IsIndexOf c.added.new.self (rs ++ row ∷ [])) c.deref-2.ensures.value c.added.ensures);
      listed =
          subst (λ (rs : List Row). AreListed c.keep_listed.new.lists rs) (sym c.add.ensures.items)
          (subst (λ (rs : List Row). AreListed c.keep_listed.new.lists (rs ++ row ∷ [])) c.deref.ensures.value c.keep_listed.ensures);
    }

pub returns : goal.returns
returns c =
    let row = c.args.row in
    let rows = c.self.inside.rows.items in
    let new = c.add.new.list.items in
    let at = c.args.at in
    let next = c.self.inside.next in
    let made = named c.args.self.now rows c.self.inside.last next at c.args.room row c.self.view_is c.self.invariant.kept.none c.requires in
    ap (λ (rs : List Run). contents_of new at (next + length rs)) c.runs.ensures.value
    ∙ applied-made c.args.self.now rows new c.self.inside.last next at row c.self.view_is c.self.invariant.kept.none c.add.ensures.items made
