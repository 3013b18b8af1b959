use Rattle.std.proofs.Common.{◌<◌, ◌≤◌, length, refl, ◌∙◌, arith, rules}
use Rattle.std.specs.Prelude.{slice_index}
use Rattle.dep_graph.proofs.EdgeLemmas.{next-name, place-within-tasks}
use Rattle.dep_graph.proofs.StepLemmas.{counts-first, counts-whole, counts-nowhere, counts-fit, counts-at}
use Rattle.dep_graph.proofs.waits.Waits.count_all.Goals as goal
use Rattle.dep_graph.proofs.waits.Waits.count_all.Goals.{in-Some, in-None}

pub loop-row-init : goal.loop-row-init
loop-row-init c = (counts-first c.args.tasks.now.tasks c.args.rows.now c.args.step.before c.args.step.now c.args.self.now.lacking.items c.args.self.now.ready c.requires.showing, refl)

pub at-requires : goal.at-requires
at-requires c = place-within-tasks c.args.tasks.now.tasks (slice_index c.args.rows.now c.loop-row.row-index) c.in-Some.place c.in-Some.ensures.some

pub count-requires : goal.count-requires
count-requires c =
    let tasks = c.args.tasks.now.tasks in
    let names = c.args.rows.now in
    let i = c.loop-row.row-index in
    let name = slice_index names i in
    let place = c.in-Some.place in
    let so = c.loop-row.invariant.0 in
    let within : i < length names = search (rules, arith) in
    let below : place < length tasks = place-within-tasks tasks name place c.in-Some.ensures.some in
    let long = c.requires.long in
    let fit = c.requires.fit in
    let same = so.long in
    let wide = so.fit in
    record {
      count = omega (arith, below, long, same);
      place = omega (arith, below, fit, wide);
      fits = counts-fit tasks names c.args.step.before c.args.step.now i name place c.at.result.now c.args.self.now.lacking.items c.loop-row.self.lacking.items c.args.self.now.ready c.loop-row.self.ready c.requires.own c.requires.distinct within (next-name names i within) c.in-Some.ensures.some c.at.ensures so c.requires.fits;
    }

pub loop-row-preserved : goal.loop-row-preserved
loop-row-preserved c =
    let tasks = c.args.tasks.now.tasks in
    let names = c.args.rows.now in
    let i = c.loop-row.row-index in
    let name = slice_index names i in
    let so = c.loop-row.invariant.0 in
    let within : i < length names = search (rules, arith) in
    let next = next-name names i within in
    let long = c.requires.long in
    let fit = c.requires.fit in
    let same = so.long in
    let wide = so.fit in
    elim c.match-place_of.branch [
      | in-Some w ↦
          let below = place-within-tasks tasks name w.in-Some.place w.in-Some.ensures.some in
          let counted = w.count.ensures.counted in
          rw w.self-is (
            counts-at tasks names c.args.step.before c.args.step.now i name w.in-Some.place w.at.result.now c.args.self.now.lacking.items c.loop-row.self.lacking.items c.args.self.now.ready c.loop-row.self.ready c.requires.own c.requires.distinct within next w.in-Some.ensures.some w.at.ensures so
                w.count.new.self.lacking.items w.count.new.self.ready counted.0 (omega (arith, below, long, same)) (omega (arith, below, fit, wide)) counted.1 counted.2 counted.3,
            w.count.ensures.capacity ∙ c.loop-row.invariant.1,
          )
      | in-None w ↦
          rw w.self-is
          (counts-nowhere tasks names c.args.step.before c.args.step.now i name c.args.self.now.lacking.items c.loop-row.self.lacking.items c.args.self.now.ready c.loop-row.self.ready within next w.in-None.ensures.none so, c.loop-row.invariant.1)
    ]

pub returns-clause-counts : goal.returns-clause-counts
returns-clause-counts c =
    let past : length c.args.rows.now ≤ c.loop-row.row-index = search (rules, arith) in
    counts-whole c.args.tasks.now.tasks c.args.rows.now c.args.step.before c.args.step.now c.loop-row.row-index c.args.self.now.lacking.items c.loop-row.self.lacking.items c.args.self.now.ready c.loop-row.self.ready past c.loop-row.invariant.0

pub returns-clause-capacity : goal.returns-clause-capacity
returns-clause-capacity c = c.loop-row.invariant.1
