use Rattle.std.proofs.Common.{◌≡◌, ◌+◌, ◌++◌, length, take, replicate, refl, sym, ap, ◌∙◌, subst, arith, le_refl, take_all, append-nil, length-take, length-drop, ◌-◌, vec_len}
use Rattle.std.proofs.lemmas.List.{take-take}
use Rattle.std.specs.Io.KnownBytes.{prepend_known, Keeps}
use Rattle.http_wire.proofs.KnownLemmas.{Keeps-grown, grown_by_read}
use Rattle.http_wire.proofs.body.fill.Goals as goal

-- what was held, and the piece that came
grown : (g : _) (c : goal.After-truncate g) → c.truncate.new.self.items ≡ c.args.held.now.items ++ take c.in-Ok-read.count c.read.new.buf
grown g c =
    let size : length c.args.held.now.items ≡ c.len-len.result = omega (arith, c.args.held.now.ok.0, c.len-len.ensures) in
    c.truncate.ensures.items
    ∙ take-take (c.len-len.result + c.in-Ok-read.count) c.resize.new.self.len _ (omega (arith, c.in-Ok-read.ensures.bound.0, c.read.auto.buf, c.in-Ok.ensures.len, c.deref_mut.ensures.len, c.resize.new.self.ok.0))
    ∙ grown_by_read c.deref_mut.result.now c.args.held.now.items _ c.read.new.buf _ _ c.len-len.result c.in-Ok-read.count
    (c.deref_mut.ensures.value ∙ c.in-Ok.ensures.items ∙ ap (λ l. l ++ replicate (c.len-len.result + 8192 - vec_len c.args.held.now) 0) (take_all (c.len-len.result + 8192) c.args.held.now.items (omega arith)))
    size c.in-Ok-read.ensures.bound.0

pub returns-in-Ok-read-clause-kept : goal.returns-in-Ok-read-clause-kept
returns-in-Ok-read-clause-kept g c =
    subst (λ items. Keeps (prepend_known c.args.held.now.items (g.L.Link.left c.args.link.now)) (prepend_known items (g.L.Link.left c.read.new.self)))
    (sym (grown g c)) (Keeps-grown c.args.held.now.items (take c.in-Ok-read.count c.read.new.buf) (g.L.Link.left c.args.link.now) (g.L.Link.left c.read.new.self) c.in-Ok-read.ensures.bytes.0)

pub returns-in-Ok-read-clause-end : goal.returns-in-Ok-read-clause-end
returns-in-Ok-read-clause-end g c none =
    let room = simp (length-take, length-drop) at c.read.auto.buf in
    (grown g c ∙ ap (λ n. c.args.held.now.items ++ take n c.read.new.buf) none ∙ append-nil c.args.held.now.items, c.in-Ok-read.ensures.bytes.1 none (omega (arith, room, c.in-Ok.ensures.len, c.deref_mut.ensures.len, c.len-len.ensures)))

pub returns-in-Ok-read-clause-grown : goal.returns-in-Ok-read-clause-grown
returns-in-Ok-read-clause-grown g c = (take c.in-Ok-read.count c.read.new.buf, grown g c)

pub returns-in-Err-clause-count : goal.returns-in-Err-clause-count
returns-in-Err-clause-count g c = tt

pub returns-in-Err-clause-piece : goal.returns-in-Err-clause-piece
returns-in-Err-clause-piece g c = tt

pub returns-in-Err-clause-end : goal.returns-in-Err-clause-end
returns-in-Err-clause-end g c = tt

pub returns-in-Err-clause-grown : goal.returns-in-Err-clause-grown
returns-in-Err-clause-grown g c = tt

pub returns-in-Err-clause-stop : goal.returns-in-Err-clause-stop
returns-in-Err-clause-stop g c = tt

pub returns-in-Err-clause-only_reads : goal.returns-in-Err-clause-only_reads
returns-in-Err-clause-only_reads g c = record { later = le_refl _; reads = refl; written = refl; write_faults = refl }

pub returns-in-Ok-read-clause-same : goal.returns-in-Ok-read-clause-same
returns-in-Ok-read-clause-same g c = tt

pub returns-in-Ok-read-clause-stop : goal.returns-in-Ok-read-clause-stop
returns-in-Ok-read-clause-stop g c = tt

pub returns-in-Ok-read-clause-only_reads : goal.returns-in-Ok-read-clause-only_reads
returns-in-Ok-read-clause-only_reads g c = record { later = c.in-Ok-read.ensures.cause.later; reads = c.in-Ok-read.ensures.cause.kept; written = c.in-Ok-read.ensures.written; write_faults = c.in-Ok-read.ensures.write_faults }

pub returns-in-Err-read-clause-count : goal.returns-in-Err-read-clause-count
returns-in-Err-read-clause-count g c = tt

pub returns-in-Err-read-clause-piece : goal.returns-in-Err-read-clause-piece
returns-in-Err-read-clause-piece g c = tt

pub returns-in-Err-read-clause-end : goal.returns-in-Err-read-clause-end
returns-in-Err-read-clause-end g c = tt

pub returns-in-Err-read-clause-grown : goal.returns-in-Err-read-clause-grown
returns-in-Err-read-clause-grown g c = tt

pub returns-in-Err-read-clause-stop : goal.returns-in-Err-read-clause-stop
returns-in-Err-read-clause-stop g c = c.in-Err-read.ensures.cause.failed
