use Rattle.std.proofs.Common.{◌≡◌, ℕ, ◌<◌, ◌-◌, length, ap, arith, rules, vec_len, vec_capacity, List}
use Rattle.task_groups.specs.Members.{TaskGroup}
use Rattle.task_groups.proofs.GroupLemmas.{same-shown, spare-at}
use Rattle.task_groups.proofs.group.make_room.Goals as goal

abbrev the_group : List ℕ → List ℕ → List ℕ → TaskGroup
the_group id scheduler rows = record { id = id; scheduler = scheduler; rows = rows }

pub returns-in-Ok-clause-same : goal.returns-in-Ok-clause-same
returns-in-Ok-clause-same c =
    let g = c.index_mut-group.result.now in
    same-shown c.args.groups.now.items c.args.place g (record { id = g.id; scheduler = g.scheduler; rows = c.reserve.new.self }) c.index_mut-group.ensures.value
    (ap (λ (rows : List ℕ). the_group g.id g.scheduler rows) c.reserve.ensures.items)

pub returns-in-Ok-clause-room : goal.returns-in-Ok-clause-room
returns-in-Ok-clause-room c =
    let g = c.index_mut-group.result.now in
    let items = c.args.groups.now.items in
    let len : vec_len c.args.groups.now ≡ length items = search rules in
    let room : 0 < vec_capacity c.reserve.new.self - vec_len c.reserve.new.self = (let fits = c.in-Ok.ensures.ok in omega arith) in
    spare-at items c.args.place (record { id = g.id; scheduler = g.scheduler; rows = c.reserve.new.self }) (omega arith) room

pub returns-in-Err-clause-same : goal.returns-in-Err-clause-same
returns-in-Err-clause-same c =
    let g = c.index_mut-group.result.now in
    same-shown c.args.groups.now.items c.args.place g (record { id = g.id; scheduler = g.scheduler; rows = c.reserve.new.self }) c.index_mut-group.ensures.value
    (ap (λ (rows : List ℕ). the_group g.id g.scheduler rows) c.reserve.ensures.items)
