use Rattle.std.proofs.Common.{◌≡◌, ℕ, ◌<◌, List, [], ◌∷◌, ◌++◌, length, ap, arith, rules, vec_len}
use Rattle.task_groups.specs.Members.{TaskGroup}
use Rattle.task_groups.proofs.GroupLemmas.{pushed-shown}
use Rattle.task_groups.proofs.group.push_row.Goals as goal

abbrev the_group : List ℕ → List ℕ → List ℕ → TaskGroup
the_group id scheduler rows = record { id = id; scheduler = scheduler; rows = rows }

pub returns : goal.returns
returns c d =
    let g = c.index_mut-group.result.now in
    let items = c.args.groups.now.items in
    let len : vec_len c.args.groups.now ≡ length items = search rules in
    let within : c.args.place < length items = omega arith in
    let pushed : c.push.new.self.items ≡ g.rows.items ++ c.args.row ∷ [] = search rules in
    pushed-shown items c.args.place c.args.row g (record { id = g.id; scheduler = g.scheduler; rows = c.push.new.self }) d within c.index_mut-group.ensures.value
    (ap (λ (rows : List ℕ). the_group g.id g.scheduler rows) pushed)
