use Rattle.std.proofs.Common.{◌≡◌, [], inl, refl, ◌+◌, ◌-◌, ◌≤◌, ◌++◌, min, length, take, drop, replicate, vec_len, ap, ◌∙◌, arith, le_refl, take_all, length-take, length-drop}
use Rattle.std.proofs.KnownBytes.{Consumes-nil, Keeps-refl}
use Rattle.http_wire.proofs.CallLemmas.{OnlyReads-failed}
use Rattle.http_wire.proofs.KnownLemmas.{Leaves-cleared, body_taken, body_stop}
use Rattle.http_wire.proofs.NeededLemmas.{lacking_by}
use Rattle.http_wire.proofs.body.take_body.Goals as goal

pub returns-in-Err-read_into-clause-leaves : goal.returns-in-Err-read_into-clause-leaves
returns-in-Err-read_into-clause-leaves g c =
    Leaves-cleared _ _ _ _ _ _ _ _ c.in-Err-read_into.wire c.clear.ensures.items c.in-Err-read_into.ensures.stop
    (c.in-Err-read_into.ensures.lost.0, c.in-Err-read_into.ensures.lost.1)

pub returns-in-Err-read_into-clause-stop : goal.returns-in-Err-read_into-clause-stop
returns-in-Err-read_into-clause-stop g c =
    let held = c.args.held.now.items in
    let size : length held ≡ c.len.result = omega (arith, c.args.held.now.ok.0, c.len.ensures) in
    let now = c.deref_mut.result.now in
    let have = c.min-have.result in
    let rest = length-take (length now - have) (drop have now) in
    let after = length-drop have now in
    body_stop held c.args.start have _ c.args.size _ _ _ c.in-Err-read_into.wire (omega (arith, size, c.min-have.ensures)) (omega (arith, size, c.requires))
    (omega (arith, rest, after, size, c.min-have.ensures, c.deref_mut.ensures.len, c.in-Ok-resize.ensures.len)) c.in-Err-read_into.ensures.stop

pub returns-clause-bytes : goal.returns-clause-bytes
returns-clause-bytes g c =
    let held = c.args.held.now.items in
    let start = c.args.start in
    let have = c.min-have.result in
    let now = c.deref_mut.result.now in
    let zeros = replicate (c.args.size - vec_len c.in-Ok.body) 0 in
    let size : length held ≡ c.len.result = omega (arith, c.args.held.now.ok.0, c.len.ensures) in
    let part : (start + have) - start ≡ have = omega arith in
    let first : c.in-Ok.body.items ≡ take have (drop start held) =
    c.in-Ok.ensures.items ∙ ap (λ n. take n (drop start c.deref.result.now)) part ∙ ap (λ l. take have (drop start l)) c.deref.ensures.value in
    let long : length c.in-Ok.body.items ≡ length (take have (drop start held)) = ap length first in
    let least : have ≡ min (length held - start) c.args.size = omega (arith, size, c.min-have.ensures) in
    let fits : length c.in-Ok.body.items ≤ c.args.size = omega (arith, long, length-take have (drop start held), least) in
    let is : now ≡ take have (drop start held) ++ zeros =
    c.deref_mut.ensures.value ∙ c.in-Ok-resize.ensures.items ∙ ap (λ l. l ++ zeros) (take_all c.args.size c.in-Ok.body.items fits ∙ first) in
    let room = length-take (length now - have) (drop have now) in
    let after = length-drop have now in
    let sum : have + length c.read_into.new.buf ≡ c.args.size =
    omega (arith, c.read_into.auto.buf, room, after, least, c.deref_mut.ensures.len, c.in-Ok-resize.ensures.len) in
    body_taken held now zeros c.read_into.new.buf _ _ c.drop_front.new.bytes.items start have c.args.size c.resize.new.self.len _ _
    least (omega (arith, size, c.requires)) is sum (c.in-Ok-resize.ensures.len) c.drop_front.ensures c.in_default.ensures.bytes

pub returns-in-Err-clause-ended : goal.returns-in-Err-clause-ended
returns-in-Err-clause-ended g c = tt

pub returns-in-Err-resize-clause-ended : goal.returns-in-Err-resize-clause-ended
returns-in-Err-resize-clause-ended g c = tt

pub returns-in-Err-clause-lacking : goal.returns-in-Err-clause-lacking
returns-in-Err-clause-lacking g c = ([], Consumes-nil (g.L.Link.left c.args.link.now), inl refl)

pub returns-in-Err-resize-clause-lacking : goal.returns-in-Err-resize-clause-lacking
returns-in-Err-resize-clause-lacking g c = ([], Consumes-nil (g.L.Link.left c.args.link.now), inl refl)

pub returns-in-Err-read_into-clause-lacking : goal.returns-in-Err-read_into-clause-lacking
returns-in-Err-read_into-clause-lacking g c =
    let have = c.min-have.result in
    let now = c.deref_mut.result.now in
    let rest = length-take (length now - have) (drop have now) in
    let after = length-drop have now in
    lacking_by (vec_len c.args.held.now - c.args.start) have _ c.args.size _ _ (omega (arith, c.len.ensures, c.min-have.ensures))
    (omega (arith, rest, after, c.min-have.ensures, c.deref_mut.ensures.len, c.in-Ok-resize.ensures.len)) c.in-Err-read_into.ensures.lost

pub returns-clause-lacking : goal.returns-clause-lacking
returns-clause-lacking g c =
    let have = c.min-have.result in
    let now = c.deref_mut.result.now in
    let rest = length-take (length now - have) (drop have now) in
    let after = length-drop have now in
    lacking_by (vec_len c.args.held.now - c.args.start) have _ c.args.size _ _ (omega (arith, c.len.ensures, c.min-have.ensures))
    (omega (arith, rest, after, c.min-have.ensures, c.deref_mut.ensures.len, c.in-Ok-resize.ensures.len)) c.in_default.ensures.lost

pub returns-in-Err-clause-sizes : goal.returns-in-Err-clause-sizes
returns-in-Err-clause-sizes g c = tt

pub returns-in-Err-clause-bytes : goal.returns-in-Err-clause-bytes
returns-in-Err-clause-bytes g c = tt

pub returns-in-Err-clause-leaves : goal.returns-in-Err-clause-leaves
returns-in-Err-clause-leaves g c = Keeps-refl _

pub returns-in-Err-clause-stop : goal.returns-in-Err-clause-stop
returns-in-Err-clause-stop g c = tt

pub returns-in-Err-clause-only_reads : goal.returns-in-Err-clause-only_reads
returns-in-Err-clause-only_reads g c = record { later = le_refl _; reads = refl; written = refl; write_faults = refl }

pub returns-in-Err-clause-untouched : goal.returns-in-Err-clause-untouched
returns-in-Err-clause-untouched g c all = refl

pub returns-in-Err-resize-clause-sizes : goal.returns-in-Err-resize-clause-sizes
returns-in-Err-resize-clause-sizes g c = tt

pub returns-in-Err-resize-clause-bytes : goal.returns-in-Err-resize-clause-bytes
returns-in-Err-resize-clause-bytes g c = tt

pub returns-in-Err-resize-clause-leaves : goal.returns-in-Err-resize-clause-leaves
returns-in-Err-resize-clause-leaves g c = Keeps-refl _

pub returns-in-Err-resize-clause-stop : goal.returns-in-Err-resize-clause-stop
returns-in-Err-resize-clause-stop g c = tt

pub returns-in-Err-resize-clause-only_reads : goal.returns-in-Err-resize-clause-only_reads
returns-in-Err-resize-clause-only_reads g c = record { later = le_refl _; reads = refl; written = refl; write_faults = refl }

pub returns-in-Err-resize-clause-untouched : goal.returns-in-Err-resize-clause-untouched
returns-in-Err-resize-clause-untouched g c all = refl

pub returns-in-Err-read_into-clause-sizes : goal.returns-in-Err-read_into-clause-sizes
returns-in-Err-read_into-clause-sizes g c = tt

pub returns-in-Err-read_into-clause-bytes : goal.returns-in-Err-read_into-clause-bytes
returns-in-Err-read_into-clause-bytes g c = tt

pub returns-in-Err-read_into-clause-ended : goal.returns-in-Err-read_into-clause-ended
returns-in-Err-read_into-clause-ended g c = c.in-Err-read_into.ensures.ended

pub returns-in-Err-read_into-clause-only_reads : goal.returns-in-Err-read_into-clause-only_reads
returns-in-Err-read_into-clause-only_reads g c = let now = c.in-Err-read_into.ensures.only_reads in OnlyReads-failed _ _ _ _ _ c.in-Err-read_into.wire refl refl refl now

pub returns-clause-leaves : goal.returns-clause-leaves
returns-clause-leaves g c = tt

pub returns-clause-ended : goal.returns-clause-ended
returns-clause-ended g c = tt

pub returns-clause-stop : goal.returns-clause-stop
returns-clause-stop g c = tt

pub returns-clause-only_reads : goal.returns-clause-only_reads
returns-clause-only_reads g c = let now = c.in_default.ensures.only_reads in record { later = now.later; reads = now.reads; written = now.written; write_faults = now.write_faults }
