use Rattle.std.proofs.Common.{◌≡◌, ◌<◌, length, rules, arith, vec_len}
use Rattle.dep_graph.proofs.EdgeLemmas.{same-edges, kept-spares, spare-at}
use Rattle.dep_graph.proofs.edges.make_room_at.Goals as goal

pub returns-in-Ok-clause-same : goal.returns-in-Ok-clause-same
returns-in-Ok-clause-same c = same-edges c.args.edges.now.items c.args.place c.index_mut-held.result.now (record { rows = c.reserve.new.self }) c.index_mut-held.ensures.value c.reserve.ensures.items

pub returns-in-Ok-clause-kept : goal.returns-in-Ok-clause-kept
returns-in-Ok-clause-kept c =
    let items = c.args.edges.now.items in
    let len : vec_len c.args.edges.now ≡ length items = search rules in
    let within : c.args.place < length items = (let below = c.requires in omega arith) in
    kept-spares items c.args.place c.index_mut-held.result.now (record { rows = c.reserve.new.self }) within c.index_mut-held.ensures.value c.reserve.ensures.len c.reserve.ensures.capacity

pub returns-in-Ok-clause-room : goal.returns-in-Ok-clause-room
returns-in-Ok-clause-room c =
    let items = c.args.edges.now.items in
    let len : vec_len c.args.edges.now ≡ length items = search rules in
    let within : c.args.place < length items = (let below = c.requires in omega arith) in
    let spare = spare-at items c.args.place (record { rows = c.reserve.new.self }) within in
    let fits = c.in-Ok.ensures.ok in
    omega arith

pub returns-in-Err-clause-same : goal.returns-in-Err-clause-same
returns-in-Err-clause-same c = same-edges c.args.edges.now.items c.args.place c.index_mut-held.result.now (record { rows = c.reserve.new.self }) c.index_mut-held.ensures.value c.reserve.ensures.items

pub returns-in-Err-clause-kept : goal.returns-in-Err-clause-kept
returns-in-Err-clause-kept c =
    let items = c.args.edges.now.items in
    let len : vec_len c.args.edges.now ≡ length items = search rules in
    let within : c.args.place < length items = (let below = c.requires in omega arith) in
    kept-spares items c.args.place c.index_mut-held.result.now (record { rows = c.reserve.new.self }) within c.index_mut-held.ensures.value c.reserve.ensures.len c.reserve.ensures.capacity
