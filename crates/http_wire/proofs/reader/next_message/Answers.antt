use Rattle.std.proofs.Common.{◌≡◌, ℕ, ◌-◌, ◌≤◌, List, length-take-le, vec_len, Ok, Err, take, length, refl, sym, ap, ◌∙◌, subst, arith, le_of_eq}
use Rattle.std.specs.Prelude.{All}
use Rattle.std.specs.Io.KnownBytes.{Consumes}
use Rattle.httparse.specs.Spans.{IsHeaderWithin, IsRequestWithin, IsRequestAt}
use Rattle.http_wire.specs.Framing.{body_length}
use Rattle.http_wire.specs.declared.message.Message.{Message}
use Rattle.http_wire.specs.declared.message.Wire.TheVariants.{NoMemory}
use Rattle.http_wire.specs.Needed.{IsUnfinished, TakesLacking}
use Rattle.http_wire.proofs.CallLemmas.{OnlyReads-failed}
use Rattle.http_wire.proofs.KnownLemmas.{Leaves-kept, Leaves-then}
use Rattle.http_wire.proofs.NeededLemmas.{body_there, head_needed, body_needed, rest_few}
use Rattle.http_wire.proofs.StreamLemmas.{fields_at, fields_inside, stops_unread, Stops-kept, stops_refused, refused_ends, OnlyReads-refused, takes_one, stops_body, TakesOne-kept}
use Rattle.http_wire.proofs.reader.next_message.Goals as goal

pub returns-in-Err-body_length-clause-stops : goal.returns-in-Err-body_length-clause-stops
returns-in-Err-body_length-clause-stops g c =
    let rule = subst (λ held. Err c.in-Err-body_length.wire ≡ body_length (fields_at held c.read_head.new.spans c.in-Ok.at)) c.deref.ensures.value c.in-Err-body_length.ensures in
    Stops-kept _ _ _ c.in-Ok.ensures.kept (stops_refused _ _ c.in-Ok.at _ _ c.in-Ok.ensures.head rule)

pub returns-in-Ok-take_body-clause-message : goal.returns-in-Ok-take_body-clause-message
returns-in-Ok-take_body-clause-message g c =
    let rule = subst (λ held. Ok c.in-Ok-body_length.size ≡ body_length (fields_at held c.read_head.new.spans c.in-Ok.at)) c.deref.ensures.value c.in-Ok-body_length.ensures in
    let head = c.in-Ok.ensures.head.head in
    let is = c.in-Ok-message_of.ensures head.0 (subst (λ held. IsRequestAt (take c.in-Ok.at.lines held) c.read_head.new.spans c.in-Ok.at.request head.0) (sym c.deref.ensures.value) head.1) in
    let size : length c.from.result ≡ c.in-Ok-body_length.size = omega (arith, ap length c.from.ensures, c.in-Ok-take_body.body.ok.0, c.in-Ok-take_body.ensures.sizes.0) in
    TakesOne-kept _ _ _ _ c.in-Ok.ensures.kept
    (takes_one _ _ c.in-Ok.at _ c.in-Ok-body_length.size c.from.result _ _ _ c.in-Ok.ensures.head rule size
    (subst (Consumes _ _) (sym c.from.ensures) c.in-Ok-take_body.ensures.bytes) (ap (λ (m : Message). record m { body = c.from.result }) is))

pub returns-in-Err-take_body-clause-stops : goal.returns-in-Err-take_body-clause-stops
returns-in-Err-take_body-clause-stops g c =
    let rule = subst (λ held. Ok c.in-Ok-body_length.size ≡ body_length (fields_at held c.read_head.new.spans c.in-Ok.at)) c.deref.ensures.value c.in-Ok-body_length.ensures in
    Stops-kept _ _ _ c.in-Ok.ensures.kept (stops_body _ _ c.in-Ok.at _ c.in-Ok-body_length.size _ _ _ c.in-Ok.ensures.head rule c.in-Err-take_body.ensures.stop)

pub returns-in-Err-take_body-clause-leaves : goal.returns-in-Err-take_body-clause-leaves
returns-in-Err-take_body-clause-leaves g c = Leaves-then _ _ _ _ c.in-Ok.ensures.kept c.in-Err-take_body.ensures.leaves

pub returns-in-Err-body_length-clause-ended : goal.returns-in-Err-body_length-clause-ended
returns-in-Err-body_length-clause-ended g c = refused_ends _ _ _ c.in-Err-body_length.ensures

pub returns-in-Err-message_of-clause-ended : goal.returns-in-Err-message_of-clause-ended
returns-in-Err-message_of-clause-ended g c = tt

pub returns-in-Ok-take_body-clause-untouched : goal.returns-in-Ok-take_body-clause-untouched
returns-in-Ok-take_body-clause-untouched g c finished =
    let rule = subst (λ held. Ok c.in-Ok-body_length.size ≡ body_length (fields_at held c.read_head.new.spans c.in-Ok.at)) c.deref.ensures.value c.in-Ok-body_length.ensures in
    let same = c.in-Ok.ensures.untouched finished in
    let held = c.read_head.new.held in
    let there = body_there held.items _ c.in-Ok.at c.in-Ok-body_length.size (subst (λ bytes. ¬ IsUnfinished bytes) (sym same.1) finished) c.in-Ok.ensures.head rule in
    c.in-Ok-take_body.ensures.untouched (omega (arith, there, held.ok.0)) ∙ same.0

pub returns-in-Err-take_body-clause-untouched : goal.returns-in-Err-take_body-clause-untouched
returns-in-Err-take_body-clause-untouched g c finished =
    let rule = subst (λ held. Ok c.in-Ok-body_length.size ≡ body_length (fields_at held c.read_head.new.spans c.in-Ok.at)) c.deref.ensures.value c.in-Ok-body_length.ensures in
    let same = c.in-Ok.ensures.untouched finished in
    let held = c.read_head.new.held in
    let there = body_there held.items _ c.in-Ok.at c.in-Ok-body_length.size (subst (λ bytes. ¬ IsUnfinished bytes) (sym same.1) finished) c.in-Ok.ensures.head rule in
    c.in-Err-take_body.ensures.untouched (omega (arith, there, held.ok.0)) ∙ same.0

pub returns-in-Err-clause-leaves : goal.returns-in-Err-clause-leaves
returns-in-Err-clause-leaves g c = Leaves-kept _ _ c.in-Err.wire c.in-Err.ensures.kept

pub returns-in-Err-clause-needed : goal.returns-in-Err-clause-needed
returns-in-Err-clause-needed g c few = head_needed _ _ _ _ (omega (arith, few, c.args.held.now.ok.0)) c.in-Err.ensures.kept c.in-Err.ensures.grown

pub returns-in-Err-body_length-clause-needed : goal.returns-in-Err-body_length-clause-needed
returns-in-Err-body_length-clause-needed g c few = head_needed _ _ _ _ (omega (arith, few, c.args.held.now.ok.0)) c.in-Ok.ensures.kept c.in-Ok.ensures.grown

pub returns-in-Err-message_of-clause-needed : goal.returns-in-Err-message_of-clause-needed
returns-in-Err-message_of-clause-needed g c few = head_needed _ _ _ _ (omega (arith, few, c.args.held.now.ok.0)) c.in-Ok.ensures.kept c.in-Ok.ensures.grown

pub returns-in-Ok-take_body-clause-needed : goal.returns-in-Ok-take_body-clause-needed
returns-in-Ok-take_body-clause-needed g c few =
    let rule = subst (λ held. Ok c.in-Ok-body_length.size ≡ body_length (fields_at held c.read_head.new.spans c.in-Ok.at)) c.deref.ensures.value c.in-Ok-body_length.ensures in
    let held = c.read_head.new.held in
    let size : vec_len held ≡ length held.items = omega (arith, held.ok.0) in
    body_needed _ held.items c.read_head.new.spans c.in-Ok.at _ _ _ c.in-Ok-body_length.size (omega (arith, few, c.args.held.now.ok.0)) c.in-Ok.ensures.kept c.in-Ok.ensures.grown c.in-Ok.ensures.head rule
    (subst (λ (n : ℕ). TakesLacking (n - c.in-Ok.at.request.len) c.in-Ok-body_length.size (g.L.Link.left c.read_head.new.link) (g.L.Link.left c.take_body.new.link)) size c.in-Ok-take_body.ensures.lacking)

pub returns-in-Err-take_body-clause-needed : goal.returns-in-Err-take_body-clause-needed
returns-in-Err-take_body-clause-needed g c few =
    let rule = subst (λ held. Ok c.in-Ok-body_length.size ≡ body_length (fields_at held c.read_head.new.spans c.in-Ok.at)) c.deref.ensures.value c.in-Ok-body_length.ensures in
    let held = c.read_head.new.held in
    let size : vec_len held ≡ length held.items = omega (arith, held.ok.0) in
    body_needed _ held.items c.read_head.new.spans c.in-Ok.at _ _ _ c.in-Ok-body_length.size (omega (arith, few, c.args.held.now.ok.0)) c.in-Ok.ensures.kept c.in-Ok.ensures.grown c.in-Ok.ensures.head rule
    (subst (λ (n : ℕ). TakesLacking (n - c.in-Ok.at.request.len) c.in-Ok-body_length.size (g.L.Link.left c.read_head.new.link) (g.L.Link.left c.take_body.new.link)) size c.in-Err-take_body.ensures.lacking)

pub returns-in-Ok-take_body-clause-rest : goal.returns-in-Ok-take_body-clause-rest
returns-in-Ok-take_body-clause-rest g c few =
    let held = c.read_head.new.held in
    let under = rest_few _ held.items c.read_head.new.spans c.in-Ok.at c.in-Ok-body_length.size (omega (arith, few, c.args.held.now.ok.0)) c.in-Ok.ensures.grown c.in-Ok.ensures.head in
    omega (arith, under, held.ok.0, c.in-Ok-take_body.ensures.sizes.1)

pub returns-in-Err-clause-message : goal.returns-in-Err-clause-message
returns-in-Err-clause-message g c = tt

pub returns-in-Err-clause-stops : goal.returns-in-Err-clause-stops
returns-in-Err-clause-stops g c = c.in-Err.ensures.stops

pub returns-in-Err-clause-ended : goal.returns-in-Err-clause-ended
returns-in-Err-clause-ended g c = c.in-Err.ensures.ended

pub returns-in-Err-clause-only_reads : goal.returns-in-Err-clause-only_reads
returns-in-Err-clause-only_reads g c = let now = c.in-Err.ensures.only_reads in OnlyReads-failed _ _ _ _ _ c.in-Err.wire refl refl refl now

pub returns-in-Err-clause-untouched : goal.returns-in-Err-clause-untouched
returns-in-Err-clause-untouched g c finished = (c.in-Err.ensures.untouched finished).0

pub returns-in-Err-clause-rest : goal.returns-in-Err-clause-rest
returns-in-Err-clause-rest g c few = tt

pub returns-in-Err-body_length-clause-message : goal.returns-in-Err-body_length-clause-message
returns-in-Err-body_length-clause-message g c = tt

pub returns-in-Err-body_length-clause-leaves : goal.returns-in-Err-body_length-clause-leaves
returns-in-Err-body_length-clause-leaves g c = Leaves-kept _ _ c.in-Err-body_length.wire c.in-Ok.ensures.kept

pub returns-in-Err-body_length-clause-untouched : goal.returns-in-Err-body_length-clause-untouched
returns-in-Err-body_length-clause-untouched g c finished = (c.in-Ok.ensures.untouched finished).0

pub returns-in-Err-body_length-clause-rest : goal.returns-in-Err-body_length-clause-rest
returns-in-Err-body_length-clause-rest g c few = tt

pub returns-in-Err-message_of-clause-message : goal.returns-in-Err-message_of-clause-message
returns-in-Err-message_of-clause-message g c = tt

pub returns-in-Err-message_of-clause-stops : goal.returns-in-Err-message_of-clause-stops
returns-in-Err-message_of-clause-stops g c = stops_unread _ 0 0 NoMemory tt

pub returns-in-Err-message_of-clause-leaves : goal.returns-in-Err-message_of-clause-leaves
returns-in-Err-message_of-clause-leaves g c = c.in-Ok.ensures.kept

pub returns-in-Err-message_of-clause-only_reads : goal.returns-in-Err-message_of-clause-only_reads
returns-in-Err-message_of-clause-only_reads g c = let now = c.in-Ok.ensures.only_reads in record { later = now.later; reads = now.reads; written = now.written; write_faults = now.write_faults }

pub returns-in-Err-message_of-clause-untouched : goal.returns-in-Err-message_of-clause-untouched
returns-in-Err-message_of-clause-untouched g c finished = (c.in-Ok.ensures.untouched finished).0

pub returns-in-Err-message_of-clause-rest : goal.returns-in-Err-message_of-clause-rest
returns-in-Err-message_of-clause-rest g c few = tt

pub returns-in-Ok-take_body-clause-stops : goal.returns-in-Ok-take_body-clause-stops
returns-in-Ok-take_body-clause-stops g c = tt

pub returns-in-Ok-take_body-clause-leaves : goal.returns-in-Ok-take_body-clause-leaves
returns-in-Ok-take_body-clause-leaves g c = tt

pub returns-in-Ok-take_body-clause-ended : goal.returns-in-Ok-take_body-clause-ended
returns-in-Ok-take_body-clause-ended g c = tt

pub returns-in-Ok-take_body-clause-only_reads : goal.returns-in-Ok-take_body-clause-only_reads
returns-in-Ok-take_body-clause-only_reads g c =
    let old = c.in-Ok.ensures.only_reads in
    let now = c.in-Ok-take_body.ensures.only_reads in
    let reads = now.reads ∙ old.reads in
    record { later = le_of_eq (sym reads); reads = reads; written = now.written ∙ old.written; write_faults = now.write_faults ∙ old.write_faults }

pub returns-in-Err-take_body-clause-message : goal.returns-in-Err-take_body-clause-message
returns-in-Err-take_body-clause-message g c = tt

pub returns-in-Err-take_body-clause-ended : goal.returns-in-Err-take_body-clause-ended
returns-in-Err-take_body-clause-ended g c = c.in-Err-take_body.ensures.ended

pub returns-in-Err-take_body-clause-only_reads : goal.returns-in-Err-take_body-clause-only_reads
returns-in-Err-take_body-clause-only_reads g c =
    let old = c.in-Ok.ensures.only_reads in
    OnlyReads-failed _ _ _ _ _ c.in-Err-take_body.wire old.reads old.written old.write_faults c.in-Err-take_body.ensures.only_reads

pub returns-in-Err-take_body-clause-rest : goal.returns-in-Err-take_body-clause-rest
returns-in-Err-take_body-clause-rest g c few = tt

pub returns-in-Err-body_length-clause-only_reads : goal.returns-in-Err-body_length-clause-only_reads
returns-in-Err-body_length-clause-only_reads g c = OnlyReads-refused _ _ _ _ c.in-Ok.at c.in-Err-body_length.wire _ c.in-Ok.ensures.only_reads c.in-Err-body_length.ensures

pub take_body-requires : goal.take_body-requires
take_body-requires g c =
    let head = c.in-Ok.ensures.head in
    omega (arith, head.within.section.len_fits, length-take-le c.in-Ok.at.lines c.read_head.new.held.items head.inside, head.inside, c.read_head.new.held.ok.0)

pub body_length-requires : goal.body_length-requires
body_length-requires g c =
    subst (λ (held : List ℕ). All (IsHeaderWithin (length (take c.in-Ok.at.lines held))) (take c.in-Ok.at.request.headers c.read_head.new.spans)) (sym c.deref.ensures.value)
    (fields_inside _ _ _ _ c.in-Ok.ensures.head.within.section)

pub message_of-requires : goal.message_of-requires
message_of-requires g c = subst (λ (held : List ℕ). IsRequestWithin (take c.in-Ok.at.lines held) c.read_head.new.spans c.in-Ok.at.request) (sym c.deref.ensures.value) c.in-Ok.ensures.head.within

pub slice_bounds-head-end : goal.slice_bounds-head-end
slice_bounds-head-end g c =
    let inside : c.in-Ok.at.lines ≤ length c.deref.result.now = subst (λ (held : List ℕ). c.in-Ok.at.lines ≤ length held) (sym c.deref.ensures.value) c.in-Ok.ensures.head.inside in
    sym (length-take-le c.in-Ok.at.lines c.deref.result.now inside)
