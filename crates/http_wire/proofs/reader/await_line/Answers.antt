use Rattle.std.proofs.Common.{◌≡◌, ℕ, ◌<◌, ◌≤◌, List, [], ◌++◌, length, vec_len, refl, sym, ap, ◌∙◌, subst, arith, le_of_eq, le_refl, append_assoc, append-nil, length-append}
use Rattle.std.proofs.lemmas.Bool.{false≢true}
use Rattle.std.proofs.KnownBytes.{Keeps-refl, Keeps-trans}
use Rattle.http_wire.specs.declared.head.TheConstants.{HEAD_LIMIT}
use Rattle.http_wire.specs.Head.{IsOpen}
use Rattle.http_wire.specs.Reading.{IsFillStop}
use Rattle.http_wire.specs.Whole.{piece_size}
use Rattle.http_wire.proofs.CallLemmas.{OnlyReads-failed}
use Rattle.http_wire.proofs.HeadLemmas.{IsOpen-piece}
use Rattle.http_wire.proofs.NeededLemmas.{GrowsOpen-piece, GrowsOpen-none}
use Rattle.http_wire.proofs.reader.await_line.Goals as goal

pub pieces-preserved : goal.pieces-preserved
pieces-preserved g c =
    let old = c.pieces.invariant in
    let size : length c.pieces.held.items ≡ c.len-len.result = omega (arith, c.pieces.held.ok.0, c.len-len.ensures) in
    let none = c.if-lines_end-gt0.false in
    record {
      short = omega arith;
      neither = IsOpen-piece c.pieces.held.items c.fill.new.held.items c.deref.result.now c.in-Ok.ensures.grown.0 c.len-len.result c.in-Ok.ensures.grown.1 size c.deref.ensures.value old.neither (λ m some. c.lines_end.ensures.last m (omega arith));
      grown = (old.grown.0 ++ c.in-Ok.ensures.grown.0, c.in-Ok.ensures.grown.1 ∙ ap (λ (l : List ℕ). l ++ c.in-Ok.ensures.grown.0) old.grown.1 ∙ append_assoc c.args.held.now.items old.grown.0 c.in-Ok.ensures.grown.0);
      longer = omega (arith, old.longer, c.in-Ok.ensures.count);
      kept = Keeps-trans _ _ _ old.kept c.in-Ok.ensures.kept;
      reads = c.in-Ok.ensures.only_reads.reads ∙ old.reads;
      written = c.in-Ok.ensures.only_reads.written ∙ old.written;
      write_faults = c.in-Ok.ensures.only_reads.write_faults ∙ old.write_faults;
    }

pub pieces-init : goal.pieces-init
pieces-init g c = record {
  short = c.requires.short;
  neither = c.requires.open_;
  grown = ([], sym (append-nil c.args.held.now.items));
  longer = le_refl _;
  kept = Keeps-refl _;
  reads = refl;
  written = refl;
  write_faults = refl;
}

pub returns-in-Ok-eq0-clause-came : goal.returns-in-Ok-eq0-clause-came
returns-in-Ok-eq0-clause-came g c came = absurd (false≢true came)

pub returns-in-Ok-eq0-clause-end : goal.returns-in-Ok-eq0-clause-end
returns-in-Ok-eq0-clause-end g c none =
    let end = c.in-Ok-eq0.ensures.end c.in-Ok-eq0.field-0-test in
    let size : vec_len c.fill.new.held ≡ vec_len c.pieces.held = omega (arith, c.in-Ok-eq0.ensures.count, c.in-Ok-eq0.field-0-test) in
    (subst (λ (n : ℕ). n < HEAD_LIMIT) (sym size) c.pieces.invariant.short, subst IsOpen (sym end.0) c.pieces.invariant.neither, end.1)

pub returns-in-Ok-eq0-clause-stop : goal.returns-in-Ok-eq0-clause-stop
returns-in-Ok-eq0-clause-stop g c = tt

pub returns-in-Ok-eq0-clause-kept : goal.returns-in-Ok-eq0-clause-kept
returns-in-Ok-eq0-clause-kept g c = Keeps-trans _ _ _ c.pieces.invariant.kept c.in-Ok-eq0.ensures.kept

pub returns-in-Ok-eq0-clause-only_reads : goal.returns-in-Ok-eq0-clause-only_reads
returns-in-Ok-eq0-clause-only_reads g c =
    let old = c.pieces.invariant in
    let now = c.in-Ok-eq0.ensures.only_reads in
    let reads = now.reads ∙ old.reads in
    record { later = le_of_eq (sym reads); reads = reads; written = now.written ∙ old.written; write_faults = now.write_faults ∙ old.write_faults }

pub returns-in-Ok-eq0-clause-grown : goal.returns-in-Ok-eq0-clause-grown
returns-in-Ok-eq0-clause-grown g c = GrowsOpen-none _ _ _ c.pieces.invariant.grown (c.in-Ok-eq0.ensures.end c.in-Ok-eq0.field-0-test).0 (omega (arith, c.pieces.invariant.short, c.pieces.held.ok.0)) c.pieces.invariant.neither

pub returns-in-Err-clause-came : goal.returns-in-Err-clause-came
returns-in-Err-clause-came g c = tt

pub returns-in-Err-clause-end : goal.returns-in-Err-clause-end
returns-in-Err-clause-end g c = tt

pub returns-in-Err-clause-stop : goal.returns-in-Err-clause-stop
returns-in-Err-clause-stop g c = subst (λ (n : ℕ). IsFillStop n (g.L.Link.read_faults c.fill.new.link) c.in-Err.wire) c.pieces.invariant.reads c.in-Err.ensures.stop

pub returns-in-Err-clause-kept : goal.returns-in-Err-clause-kept
returns-in-Err-clause-kept g c = Keeps-trans _ _ _ c.pieces.invariant.kept c.in-Err.ensures.kept

pub returns-in-Err-clause-only_reads : goal.returns-in-Err-clause-only_reads
returns-in-Err-clause-only_reads g c =
    let old = c.pieces.invariant in
    OnlyReads-failed _ _ _ _ _ c.in-Err.wire old.reads old.written old.write_faults c.in-Err.ensures.only_reads

pub returns-in-Err-clause-grown : goal.returns-in-Err-clause-grown
returns-in-Err-clause-grown g c = GrowsOpen-none _ _ _ c.pieces.invariant.grown c.in-Err.ensures.same (omega (arith, c.pieces.invariant.short, c.pieces.held.ok.0)) c.pieces.invariant.neither

pub returns-then-len-ge-HEAD_LIMIT-clause-end : goal.returns-then-len-ge-HEAD_LIMIT-clause-end
returns-then-len-ge-HEAD_LIMIT-clause-end g c none = absurd (false≢true (sym none))

pub returns-then-len-ge-HEAD_LIMIT-clause-stop : goal.returns-then-len-ge-HEAD_LIMIT-clause-stop
returns-then-len-ge-HEAD_LIMIT-clause-stop g c = tt

pub returns-then-len-ge-HEAD_LIMIT-clause-kept : goal.returns-then-len-ge-HEAD_LIMIT-clause-kept
returns-then-len-ge-HEAD_LIMIT-clause-kept g c = Keeps-trans _ _ _ c.pieces.invariant.kept c.in-Ok.ensures.kept

pub returns-then-len-ge-HEAD_LIMIT-clause-only_reads : goal.returns-then-len-ge-HEAD_LIMIT-clause-only_reads
returns-then-len-ge-HEAD_LIMIT-clause-only_reads g c =
    let old = c.pieces.invariant in
    let now = c.in-Ok.ensures.only_reads in
    let reads = now.reads ∙ old.reads in
    record { later = le_of_eq (sym reads); reads = reads; written = now.written ∙ old.written; write_faults = now.write_faults ∙ old.write_faults }

pub returns-then-len-ge-HEAD_LIMIT-clause-grown : goal.returns-then-len-ge-HEAD_LIMIT-clause-grown
returns-then-len-ge-HEAD_LIMIT-clause-grown g c =
    let old = c.pieces.invariant in
    let piece = c.in-Ok.ensures.grown in
    let few : length piece.0 ≤ piece_size = omega (arith, c.in-Ok.ensures.piece, c.in-Ok.ensures.count, ap length piece.1, length-append c.pieces.held.items piece.0, c.pieces.held.ok.0, c.fill.new.held.ok.0) in
    GrowsOpen-piece _ c.pieces.held.items _ old.grown.0 piece.0 old.grown.1 piece.1 few (omega (arith, old.short, c.pieces.held.ok.0)) old.neither
