use Rattle.std.proofs.Common.{◌≡◌, ℕ, List, inl, inr, refl, sym, ap, ◌∙◌, rules, ◌<◌, length, true, subst, arith, le_of_eq}
use Rattle.std.proofs.KnownBytes.{Keeps-refl, Keeps-trans}
use Rattle.std.specs.Io.KnownBytes.{prepend_known}
use Rattle.http_wire.specs.declared.message.Wire.TheVariants.{HeadFault, HeadTooLarge}
use Rattle.http_wire.specs.Head.{head_limit, IsOpen, IsEmptyLines}
use Rattle.http_wire.specs.Front.{IsHeadAt}
use Rattle.http_wire.specs.Stream.{Stops}
use Rattle.http_wire.specs.Needed.{IsUnfinished}
use Rattle.http_wire.proofs.CallLemmas.{OnlyReads-failed}
use Rattle.http_wire.proofs.KnownLemmas.{fill_ends}
use Rattle.http_wire.proofs.NeededLemmas.{open_unfinished, GrowsOpen-then}
use Rattle.http_wire.proofs.StreamLemmas.{stops_unread, Stops-kept, stops_fault, stops_large, stops_end, stops_inside}
use Rattle.http_wire.proofs.reader.read_head.Goals as goal

pub returns-in-Ok-false-clause-stops : goal.returns-in-Ok-false-clause-stops
returns-in-Ok-false-clause-stops g c =
    let end = c.in-Ok-false.ensures.end c.in-Ok-false.field-0-test in
    let short : length c.await_line.new.held.items < head_limit = omega (arith, end.0, c.await_line.new.held.ok.0) in
    let held : c.deref-else-await_line.result.now ≡ c.await_line.new.held.items = c.deref-else-await_line.ensures.value in
    let lines : IsEmptyLines c.await_line.new.held.items = subst IsEmptyLines held (c.are_empty_lines.ensures.0 c.if-are_empty_lines.true) in
    Stops-kept _ _ _ (Keeps-trans _ _ _ c.loop-at.invariant.kept c.in-Ok-false.ensures.kept) (stops_end c.await_line.new.held.items _ short end.1 end.2 lines)

pub returns-in-Ok-false-2-clause-stops : goal.returns-in-Ok-false-2-clause-stops
returns-in-Ok-false-2-clause-stops g c =
    let end = c.in-Ok-false.ensures.end c.in-Ok-false.field-0-test in
    let short : length c.await_line.new.held.items < head_limit = omega (arith, end.0, c.await_line.new.held.ok.0) in
    let held : c.await_line.new.held.items ≡ c.deref-else-await_line.result.now = cc in
    let lines : ¬ IsEmptyLines c.await_line.new.held.items = λ h. let e : c.are_empty_lines.result ≡ true = c.are_empty_lines.ensures.1 (subst IsEmptyLines held h) in cc in
    Stops-kept _ _ _ (Keeps-trans _ _ _ c.loop-at.invariant.kept c.in-Ok-false.ensures.kept) (stops_inside c.await_line.new.held.items _ short end.1 end.2 lines)

pub returns-in-Ok-false-clause-grown : goal.returns-in-Ok-false-clause-grown
returns-in-Ok-false-clause-grown g c = inr (GrowsOpen-then _ _ _ c.loop-at.invariant.grown c.in-Ok-false.ensures.grown)

pub returns-in-Ok-false-2-clause-grown : goal.returns-in-Ok-false-2-clause-grown
returns-in-Ok-false-2-clause-grown g c = inr (GrowsOpen-then _ _ _ c.loop-at.invariant.grown c.in-Ok-false.ensures.grown)

pub returns-in-Err-clause-grown : goal.returns-in-Err-clause-grown
returns-in-Err-clause-grown g c = inr (GrowsOpen-then _ _ _ c.loop-at.invariant.grown c.in-Err.ensures.grown)

pub returns-in-Ok-false-clause-untouched : goal.returns-in-Ok-false-clause-untouched
returns-in-Ok-false-clause-untouched g c finished =
    let same = c.loop-at.invariant.untouched finished in
    absurd (finished (subst IsUnfinished (c.deref.ensures.value ∙ same.1) (open_unfinished c.deref.result.now c.in-Short.ensures.0 c.in-Short.ensures.1)))

pub returns-in-Ok-false-2-clause-untouched : goal.returns-in-Ok-false-2-clause-untouched
returns-in-Ok-false-2-clause-untouched g c finished =
    let same = c.loop-at.invariant.untouched finished in
    absurd (finished (subst IsUnfinished (c.deref.ensures.value ∙ same.1) (open_unfinished c.deref.result.now c.in-Short.ensures.0 c.in-Short.ensures.1)))

pub returns-in-Err-clause-untouched : goal.returns-in-Err-clause-untouched
returns-in-Err-clause-untouched g c finished =
    let same = c.loop-at.invariant.untouched finished in
    absurd (finished (subst IsUnfinished (c.deref.ensures.value ∙ same.1) (open_unfinished c.deref.result.now c.in-Short.ensures.0 c.in-Short.ensures.1)))

pub returns-in-Fault-clause-stops : goal.returns-in-Fault-clause-stops
returns-in-Fault-clause-stops g c =
    let left = g.L.Link.left c.loop-at.link in
    let has = c.in-Fault.ensures in
    Stops-kept _ _ _ c.loop-at.invariant.kept (subst (λ (held : List ℕ). Stops (prepend_known held left) HeadFault) c.deref.ensures.value (stops_fault c.deref.result.now left has.0 has.1))

pub returns-in-TooLarge-clause-stops : goal.returns-in-TooLarge-clause-stops
returns-in-TooLarge-clause-stops g c =
    let left = g.L.Link.left c.loop-at.link in
    let has = c.in-TooLarge.ensures in
    Stops-kept _ _ _ c.loop-at.invariant.kept (subst (λ (held : List ℕ). Stops (prepend_known held left) HeadTooLarge) c.deref.ensures.value (stops_large c.deref.result.now left has.0 has.1))

pub loop-at-preserved : goal.loop-at-preserved
loop-at-preserved g c =
    let old = c.loop-at.invariant in
    let now = c.in-Ok-true.ensures in
    record {
      room = search rules;
      kept = Keeps-trans _ _ _ old.kept now.kept;
      reads = now.only_reads.reads ∙ old.reads;
      written = now.only_reads.written ∙ old.written;
      write_faults = now.only_reads.write_faults ∙ old.write_faults;
      untouched = λ finished.
          let same = old.untouched finished in
          absurd (finished (subst IsUnfinished (c.deref.ensures.value ∙ same.1) (open_unfinished c.deref.result.now c.in-Short.ensures.0 c.in-Short.ensures.1)));
      grown = inr (GrowsOpen-then _ _ _ old.grown now.grown);
    }

pub loop-at-init : goal.loop-at-init
loop-at-init g c = record { room = c.requires; kept = Keeps-refl _; reads = refl; written = refl; write_faults = refl; untouched = λ _. (refl, refl); grown = inl refl }

pub returns-in-Head-clause-head : goal.returns-in-Head-clause-head
returns-in-Head-clause-head g c = subst (λ (held : List ℕ). IsHeadAt held c.look_at.new.spans c.in-Head.at) c.deref.ensures.value c.in-Head.ensures

pub returns-in-Head-clause-stops : goal.returns-in-Head-clause-stops
returns-in-Head-clause-stops g c = tt

pub returns-in-Head-clause-kept : goal.returns-in-Head-clause-kept
returns-in-Head-clause-kept g c = c.loop-at.invariant.kept

pub returns-in-Head-clause-ended : goal.returns-in-Head-clause-ended
returns-in-Head-clause-ended g c = tt

pub returns-in-Head-clause-only_reads : goal.returns-in-Head-clause-only_reads
returns-in-Head-clause-only_reads g c =
    let old = c.loop-at.invariant in
    record { later = le_of_eq (sym old.reads); reads = old.reads; written = old.written; write_faults = old.write_faults }

pub returns-in-Head-clause-untouched : goal.returns-in-Head-clause-untouched
returns-in-Head-clause-untouched g c = c.loop-at.invariant.untouched

pub returns-in-Head-clause-grown : goal.returns-in-Head-clause-grown
returns-in-Head-clause-grown g c = c.loop-at.invariant.grown

pub returns-in-Fault-clause-head : goal.returns-in-Fault-clause-head
returns-in-Fault-clause-head g c = tt

pub returns-in-Fault-clause-kept : goal.returns-in-Fault-clause-kept
returns-in-Fault-clause-kept g c = c.loop-at.invariant.kept

pub returns-in-Fault-clause-ended : goal.returns-in-Fault-clause-ended
returns-in-Fault-clause-ended g c = tt

pub returns-in-Fault-clause-only_reads : goal.returns-in-Fault-clause-only_reads
returns-in-Fault-clause-only_reads g c =
    let old = c.loop-at.invariant in
    record { later = le_of_eq (sym old.reads); reads = old.reads; written = old.written; write_faults = old.write_faults }

pub returns-in-Fault-clause-untouched : goal.returns-in-Fault-clause-untouched
returns-in-Fault-clause-untouched g c = c.loop-at.invariant.untouched

pub returns-in-Fault-clause-grown : goal.returns-in-Fault-clause-grown
returns-in-Fault-clause-grown g c = c.loop-at.invariant.grown

pub returns-in-TooLarge-clause-head : goal.returns-in-TooLarge-clause-head
returns-in-TooLarge-clause-head g c = tt

pub returns-in-TooLarge-clause-kept : goal.returns-in-TooLarge-clause-kept
returns-in-TooLarge-clause-kept g c = c.loop-at.invariant.kept

pub returns-in-TooLarge-clause-ended : goal.returns-in-TooLarge-clause-ended
returns-in-TooLarge-clause-ended g c = tt

pub returns-in-TooLarge-clause-only_reads : goal.returns-in-TooLarge-clause-only_reads
returns-in-TooLarge-clause-only_reads g c =
    let old = c.loop-at.invariant in
    record { later = le_of_eq (sym old.reads); reads = old.reads; written = old.written; write_faults = old.write_faults }

pub returns-in-TooLarge-clause-untouched : goal.returns-in-TooLarge-clause-untouched
returns-in-TooLarge-clause-untouched g c = c.loop-at.invariant.untouched

pub returns-in-TooLarge-clause-grown : goal.returns-in-TooLarge-clause-grown
returns-in-TooLarge-clause-grown g c = c.loop-at.invariant.grown

pub await_line-requires-clause-short : goal.await_line-requires-clause-short
await_line-requires-clause-short g c = omega (arith, c.in-Short.ensures.0, ap length c.deref.ensures.value, c.loop-at.held.ok.0)

pub await_line-requires-clause-open_ : goal.await_line-requires-clause-open_
await_line-requires-clause-open_ g c = subst IsOpen c.deref.ensures.value c.in-Short.ensures.1

pub loop-at-smaller : goal.loop-at-smaller
loop-at-smaller g c = omega (arith, c.in-Ok-true.ensures.came c.in-Ok-true.field-0-test, c.in-Short.ensures.0, ap length c.deref.ensures.value, c.loop-at.held.ok.0)

pub returns-in-Ok-false-clause-head : goal.returns-in-Ok-false-clause-head
returns-in-Ok-false-clause-head g c = tt

pub returns-in-Ok-false-clause-kept : goal.returns-in-Ok-false-clause-kept
returns-in-Ok-false-clause-kept g c = Keeps-trans _ _ _ c.loop-at.invariant.kept c.in-Ok-false.ensures.kept

pub returns-in-Ok-false-clause-ended : goal.returns-in-Ok-false-clause-ended
returns-in-Ok-false-clause-ended g c = (c.in-Ok-false.ensures.end c.in-Ok-false.field-0-test).2

pub returns-in-Ok-false-clause-only_reads : goal.returns-in-Ok-false-clause-only_reads
returns-in-Ok-false-clause-only_reads g c =
    let old = c.loop-at.invariant in
    let now = c.in-Ok-false.ensures.only_reads in
    let reads = now.reads ∙ old.reads in
    record { later = le_of_eq (sym reads); reads = reads; written = now.written ∙ old.written; write_faults = now.write_faults ∙ old.write_faults }

pub returns-in-Ok-false-2-clause-head : goal.returns-in-Ok-false-2-clause-head
returns-in-Ok-false-2-clause-head g c = tt

pub returns-in-Ok-false-2-clause-kept : goal.returns-in-Ok-false-2-clause-kept
returns-in-Ok-false-2-clause-kept g c = Keeps-trans _ _ _ c.loop-at.invariant.kept c.in-Ok-false.ensures.kept

pub returns-in-Ok-false-2-clause-ended : goal.returns-in-Ok-false-2-clause-ended
returns-in-Ok-false-2-clause-ended g c = (c.in-Ok-false.ensures.end c.in-Ok-false.field-0-test).2

pub returns-in-Ok-false-2-clause-only_reads : goal.returns-in-Ok-false-2-clause-only_reads
returns-in-Ok-false-2-clause-only_reads g c =
    let old = c.loop-at.invariant in
    let now = c.in-Ok-false.ensures.only_reads in
    let reads = now.reads ∙ old.reads in
    record { later = le_of_eq (sym reads); reads = reads; written = now.written ∙ old.written; write_faults = now.write_faults ∙ old.write_faults }

pub returns-in-Err-clause-head : goal.returns-in-Err-clause-head
returns-in-Err-clause-head g c = tt

pub returns-in-Err-clause-stops : goal.returns-in-Err-clause-stops
returns-in-Err-clause-stops g c = stops_unread _ _ _ c.in-Err.wire c.in-Err.ensures.stop

pub returns-in-Err-clause-kept : goal.returns-in-Err-clause-kept
returns-in-Err-clause-kept g c = Keeps-trans _ _ _ c.loop-at.invariant.kept c.in-Err.ensures.kept

pub returns-in-Err-clause-ended : goal.returns-in-Err-clause-ended
returns-in-Err-clause-ended g c = fill_ends _ _ _ c.in-Err.wire c.in-Err.ensures.stop

pub returns-in-Err-clause-only_reads : goal.returns-in-Err-clause-only_reads
returns-in-Err-clause-only_reads g c =
    let old = c.loop-at.invariant in
    OnlyReads-failed _ _ _ _ _ c.in-Err.wire old.reads old.written old.write_faults c.in-Err.ensures.only_reads
