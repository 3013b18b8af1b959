use Rattle.std.proofs.Common.{◌≡◌, ℕ, suc, refl, arith, List, [], ◌∷◌, ◌++◌, true, length, map, take, drop, bytes_eq, ap, sym, ◌∙◌, subst}
use Rattle.std.specs.List.{list_any, list_all, AllZip}
use Rattle.std.specs.Vec.Iter.{into_iter_items}
use Rattle.task_types.specs.declared.task_def.TaskDef.{TaskDef}
use Rattle.task_index.specs.declared.lists.TaskList.TheVariants.{Dependants}
use Rattle.task_index.specs.Dependencies.{ids_of, place_in}
use Rattle.task_index.specs.Plans.{HasRoomOn}
use Rattle.task_index.specs.PlaceLists.{AreWaitedSoFar}
use Rattle.task_index.proofs.ComingLemmas.{CanWait, can-wait, waited-more, members-same}
use Rattle.task_index.proofs.SpareLemmas.{IsTaken, taken, named-passes, all-taken}
use Rattle.task_index.proofs.place_lists.coming.wait_for_each.Goals as goal

empty : (xs : List ℕ) → length xs ≡ 0 → xs ≡ []
empty [] none = refl
empty (x ∷ xs) none = absurd (omega arith)

pub wait-requires-clause-within : goal.wait-requires-clause-within
wait-requires-clause-within c =
    let rows = c.args.rows.now in
    let row = c.args.row.now in
    let named = c.list-named.result.now in
    let deps = row.definition.dependencies in
    let count = c.loop-spare.count in
    let id = c.index-named-count.result in
    let at = c.place_behind-at.result in
    let spare = c.in-Some.spare in
    let deps_are : named ≡ deps = c.list-named.ensures ∙ ap (λ (d : TaskDef). d.dependencies) c.definition.ensures in
    let left : IsTaken rows named count spare (into_iter_items c.next.new.self) id = taken rows named count spare (into_iter_items c.loop-spare.spare-iterator) (into_iter_items c.next.new.self) id c.loop-spare.invariant.left c.in-Some.ensures.steps.0 c.index-named-count.is in
    let place : at ≡ place_in (ids_of rows ++ row.id ∷ []) id = c.place_behind-at.ensures ∙ ap (λ (own : List ℕ). place_in (ids_of rows ++ own ∷ []) id) c.id.ensures in
    let stands : list_any (λ other. bytes_eq other id) (ids_of rows ++ row.id ∷ []) ≡ true =
    named-passes (λ i. list_any (λ other. bytes_eq other i) (ids_of rows ++ row.id ∷ [])) named count id (ap (list_all (λ i. list_any (λ other. bytes_eq other i) (ids_of rows ++ row.id ∷ []))) deps_are ∙ c.requires.stand) left.less c.index-named-count.is in
    let can : CanWait c.loop-spare.lists at (length rows) spare =
    can-wait c.loop-spare.lists rows row (take count named) id at spare c.requires.own c.requires.few place stands left.here c.loop-spare.invariant.so_far in
    can.within

pub wait-requires-clause-few : goal.wait-requires-clause-few
wait-requires-clause-few c =
    let rows = c.args.rows.now in
    let row = c.args.row.now in
    let named = c.list-named.result.now in
    let deps = row.definition.dependencies in
    let count = c.loop-spare.count in
    let id = c.index-named-count.result in
    let at = c.place_behind-at.result in
    let spare = c.in-Some.spare in
    let deps_are : named ≡ deps = c.list-named.ensures ∙ ap (λ (d : TaskDef). d.dependencies) c.definition.ensures in
    let left : IsTaken rows named count spare (into_iter_items c.next.new.self) id = taken rows named count spare (into_iter_items c.loop-spare.spare-iterator) (into_iter_items c.next.new.self) id c.loop-spare.invariant.left c.in-Some.ensures.steps.0 c.index-named-count.is in
    let place : at ≡ place_in (ids_of rows ++ row.id ∷ []) id = c.place_behind-at.ensures ∙ ap (λ (own : List ℕ). place_in (ids_of rows ++ own ∷ []) id) c.id.ensures in
    let stands : list_any (λ other. bytes_eq other id) (ids_of rows ++ row.id ∷ []) ≡ true =
    named-passes (λ i. list_any (λ other. bytes_eq other i) (ids_of rows ++ row.id ∷ [])) named count id (ap (list_all (λ i. list_any (λ other. bytes_eq other i) (ids_of rows ++ row.id ∷ []))) deps_are ∙ c.requires.stand) left.less c.index-named-count.is in
    let can : CanWait c.loop-spare.lists at (length rows) spare =
    can-wait c.loop-spare.lists rows row (take count named) id at spare c.requires.own c.requires.few place stands left.here c.loop-spare.invariant.so_far in
    can.few

pub wait-requires-clause-room : goal.wait-requires-clause-room
wait-requires-clause-room c =
    let rows = c.args.rows.now in
    let row = c.args.row.now in
    let named = c.list-named.result.now in
    let deps = row.definition.dependencies in
    let count = c.loop-spare.count in
    let id = c.index-named-count.result in
    let at = c.place_behind-at.result in
    let spare = c.in-Some.spare in
    let deps_are : named ≡ deps = c.list-named.ensures ∙ ap (λ (d : TaskDef). d.dependencies) c.definition.ensures in
    let left : IsTaken rows named count spare (into_iter_items c.next.new.self) id = taken rows named count spare (into_iter_items c.loop-spare.spare-iterator) (into_iter_items c.next.new.self) id c.loop-spare.invariant.left c.in-Some.ensures.steps.0 c.index-named-count.is in
    let place : at ≡ place_in (ids_of rows ++ row.id ∷ []) id = c.place_behind-at.ensures ∙ ap (λ (own : List ℕ). place_in (ids_of rows ++ own ∷ []) id) c.id.ensures in
    let stands : list_any (λ other. bytes_eq other id) (ids_of rows ++ row.id ∷ []) ≡ true =
    named-passes (λ i. list_any (λ other. bytes_eq other i) (ids_of rows ++ row.id ∷ [])) named count id (ap (list_all (λ i. list_any (λ other. bytes_eq other i) (ids_of rows ++ row.id ∷ []))) deps_are ∙ c.requires.stand) left.less c.index-named-count.is in
    let can : CanWait c.loop-spare.lists at (length rows) spare =
    can-wait c.loop-spare.lists rows row (take count named) id at spare c.requires.own c.requires.few place stands left.here c.loop-spare.invariant.so_far in
    can.room

pub loop-spare-preserved : goal.loop-spare-preserved
loop-spare-preserved c =
    let rows = c.args.rows.now in
    let row = c.args.row.now in
    let named = c.list-named.result.now in
    let deps = row.definition.dependencies in
    let count = c.loop-spare.count in
    let id = c.index-named-count.result in
    let at = c.place_behind-at.result in
    let spare = c.in-Some.spare in
    let deps_are : named ≡ deps = c.list-named.ensures ∙ ap (λ (d : TaskDef). d.dependencies) c.definition.ensures in
    let left : IsTaken rows named count spare (into_iter_items c.next.new.self) id = taken rows named count spare (into_iter_items c.loop-spare.spare-iterator) (into_iter_items c.next.new.self) id c.loop-spare.invariant.left c.in-Some.ensures.steps.0 c.index-named-count.is in
    let place : at ≡ place_in (ids_of rows ++ row.id ∷ []) id = c.place_behind-at.ensures ∙ ap (λ (own : List ℕ). place_in (ids_of rows ++ own ∷ []) id) c.id.ensures in
    let stands : list_any (λ other. bytes_eq other id) (ids_of rows ++ row.id ∷ []) ≡ true =
    named-passes (λ i. list_any (λ other. bytes_eq other i) (ids_of rows ++ row.id ∷ [])) named count id (ap (list_all (λ i. list_any (λ other. bytes_eq other i) (ids_of rows ++ row.id ∷ []))) deps_are ∙ c.requires.stand) left.less c.index-named-count.is in
    record {
      so_far = subst (λ (ds : List (List ℕ)). AreWaitedSoFar c.wait.new.self rows row ds) (sym left.more) (waited-more c.loop-spare.lists c.wait.new.self rows row (take count named) id at c.requires.own place c.loop-spare.invariant.so_far c.wait.ensures);
      grouped = λ group first found. members-same at first _ c.loop-spare.lists c.wait.new.self c.wait.ensures ∙ c.loop-spare.invariant.grouped group first found;
      left = left.rest;
      long = (let items : length (into_iter_items c.loop-spare.spare-iterator) ≡ suc (length (into_iter_items c.next.new.self)) = ap length c.in-Some.ensures.steps.0 in let fewer = c.in-Some.ensures.steps.1 in let long = c.loop-spare.invariant.long in omega arith);
    }

pub returns-clause-waited : goal.returns-clause-waited
returns-clause-waited c =
    let rows = c.args.rows.now in
    let row = c.args.row.now in
    let named = c.list-named.result.now in
    let count = c.loop-spare.count in
    let deps_are : named ≡ row.definition.dependencies = c.list-named.ensures ∙ ap (λ (d : TaskDef). d.dependencies) c.definition.ensures in
    let none : into_iter_items c.loop-spare.spare-iterator ≡ [] = empty (into_iter_items c.loop-spare.spare-iterator) (let long = c.loop-spare.invariant.long in let end = c.in-None.ensures.steps.0 in omega arith) in
    let left : AllZip (HasRoomOn rows) (map Dependants (drop count named)) [] = subst (λ (ys : List ℕ). AllZip (HasRoomOn rows) (map Dependants (drop count named)) ys) none c.loop-spare.invariant.left in
    subst (λ (ds : List (List ℕ)). AreWaitedSoFar c.loop-spare.lists rows row ds) (all-taken rows named count left ∙ deps_are) c.loop-spare.invariant.so_far
