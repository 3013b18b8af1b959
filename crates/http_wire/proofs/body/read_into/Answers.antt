use Rattle.std.proofs.Common.{◌≡◌, ℕ, ◌+◌, ◌-◌, ◌≤◌, List, ◌++◌, rules, arith, length, take, slice_range, refl, sym, ap, ◌∙◌, subst, le_of_eq, le_refl, drop_at, length-take-le}
use Rattle.std.proofs.lemmas.Slice.{take-put_mid_below}
use Rattle.std.specs.Io.KnownBytes.{Consumes}
use Rattle.std.proofs.KnownBytes.{Consumes-nil, Consumes-trans}
use borrow.Rule.Slice.PartMut.{put_mid, post_of}
use lib.Seq.{take-add, take-append-le}
use Rattle.http_wire.proofs.body.read_into.Goals as goal

take_split : (a b : ℕ) (old new : List ℕ) → a ≤ b → take a new ≡ take a old → take a old ++ slice_range new a b ≡ take b new
take_split a b old new h front =
    let same : a + (b - a) ≡ b = omega arith in
    ap (λ l. l ++ slice_range new a b) (sym front) ∙ sym (take-add a (b - a) new) ∙ ap (λ n. take n new) same

slice_range-put_mid : (a k n : ℕ) (xs ys : List ℕ) → a ≤ length xs → n ≤ length ys → slice_range (put_mid a k xs ys) a (a + n) ≡ take n ys
slice_range-put_mid a k n xs ys within fits =
    let same : (a + n) - a ≡ n = omega arith in
    let after = post_of a k xs in
    ap (take ((a + n) - a)) (drop_at (take a xs) (ys ++ after) a (length-take-le a xs within)) ∙ ap (λ m. take m (ys ++ after)) same ∙ take-append-le n ys after fits

pub loop-filled-preserved : goal.loop-filled-preserved
loop-filled-preserved g c =
    let from = c.loop-filled.filled in
    let room = length c.loop-filled.buf - from in
    let within = c.loop-filled.invariant.within in
    let part = slice_range-put_mid from room c.in-Ok.count c.loop-filled.buf c.read.new.buf within c.in-Ok.ensures.bound.0 in
    let joined = take_split from (from + c.in-Ok.count) c.loop-filled.buf (put_mid from room c.loop-filled.buf c.read.new.buf) (omega arith) (take-put_mid_below _ _ _ _ _ (le_refl _) within) in
    record {
      same_length = search rules;
      within = search rules;
      bytes = subst (Consumes _ _) (ap (λ l. take from c.loop-filled.buf ++ l) (sym part) ∙ joined) (Consumes-trans _ _ _ _ _ c.loop-filled.invariant.bytes c.in-Ok.ensures.bytes.0);
      reads = c.in-Ok.ensures.cause.kept ∙ c.loop-filled.invariant.reads;
      written = c.in-Ok.ensures.written ∙ c.loop-filled.invariant.written;
      write_faults = c.in-Ok.ensures.write_faults ∙ c.loop-filled.invariant.write_faults;
      untouched = λ none. absurd (omega arith);
    }

pub returns-in-Err-clause-ended : goal.returns-in-Err-clause-ended
returns-in-Err-clause-ended g c = tt

pub loop-filled-init : goal.loop-filled-init
loop-filled-init g c = record { same_length = refl; within = omega arith; bytes = Consumes-nil _; reads = refl; written = refl; write_faults = refl; untouched = λ none. refl }

pub returns-in-Ok-eq0-clause-bytes : goal.returns-in-Ok-eq0-clause-bytes
returns-in-Ok-eq0-clause-bytes g c = tt

pub returns-in-Err-clause-bytes : goal.returns-in-Err-clause-bytes
returns-in-Err-clause-bytes g c = tt

pub returns-in-Ok-eq0-clause-only_reads : goal.returns-in-Ok-eq0-clause-only_reads
returns-in-Ok-eq0-clause-only_reads g c =
    let old = c.loop-filled.invariant in
    let reads = c.in-Ok-eq0.ensures.cause.kept ∙ old.reads in
    record { later = le_of_eq (sym reads); reads = reads; written = c.in-Ok-eq0.ensures.written ∙ old.written; write_faults = c.in-Ok-eq0.ensures.write_faults ∙ old.write_faults }

pub returns-clause-stop : goal.returns-clause-stop
returns-clause-stop g c = tt

pub returns-clause-ended : goal.returns-clause-ended
returns-clause-ended g c = tt

pub returns-clause-only_reads : goal.returns-clause-only_reads
returns-clause-only_reads g c =
    let old = c.loop-filled.invariant in
    record { later = le_of_eq (sym old.reads); reads = old.reads; written = old.written; write_faults = old.write_faults }

pub returns-clause-untouched : goal.returns-clause-untouched
returns-clause-untouched g c = c.loop-filled.invariant.untouched
