-- Each body is replayed behind those before it; the first that is not is broken.
use Rattle.std.proofs.Common.{ℕ, ◌<◌, Bool, List, [], length, Ok, slice_index_or, ap, subst, ◌∙◌, arith}
use Rattle.std.specs.declared.alloc.AllocError.{AllocError}
use Rattle.disk_journal.specs.Opened.{opened_bodies}
use Rattle.farm_core.specs.Reading.{IsRead}
use Rattle.farm_core.proofs.OpenLemmas.{replays-more, broken-at}
use Rattle.farm_core.proofs.restoring.restore.Goals as goal

pub returns-in-Ok-false : goal.returns-in-Ok-false
returns-in-Ok-false c =
    let bodies = opened_bodies c.args.bodies.now in
    let index = c.loop-index.index in
    let within : index < length bodies = omega (arith, c.loop-index-test.true, c.loop-index.auto.index-end, c.len-index-end.ensures) in
    let place = c.place.ensures ∙ ap (λ (l : List (ℕ × List ℕ)). (slice_index_or l index (0, [])).0) c.requires in
    let read = subst (λ (b : Bool). IsRead {E = AllocError} c.loop-index.tables c.get.result.now (Ok b) c.restore_one.new.tables) c.in-Ok-false.field-0-test c.in-Ok-false.ensures in
    broken-at bodies index c.place.result c.loop-index.tables c.get.result.now within c.get.ensures place c.loop-index.invariant read

pub loop-index-preserved : goal.loop-index-preserved
loop-index-preserved c =
    let bodies = opened_bodies c.args.bodies.now in
    let index = c.loop-index.index in
    let within : index < length bodies = omega (arith, c.loop-index-test.true, c.loop-index.auto.index-end, c.len-index-end.ensures) in
    let read = subst (λ (b : Bool). IsRead {E = AllocError} c.loop-index.tables c.get.result.now (Ok b) c.restore_one.new.tables) c.in-Ok-true.field-0-test c.in-Ok-true.ensures in
    replays-more bodies index c.loop-index.tables c.restore_one.new.tables c.get.result.now within c.get.ensures c.loop-index.invariant read
