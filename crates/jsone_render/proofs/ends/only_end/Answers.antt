use Rattle.std.proofs.Common.{slice_index, subst, sym, ◌∙◌, arith, ◌≡◌}
use Rattle.jsone_render.proofs.BracketLemmas.{one_more, one_deeper, none_walked, only_here}
use Rattle.jsone_render.proofs.ends.only_end.Goals as goal

pub returns-in-None : goal.returns-in-None
returns-in-None c =
    let l = c.loop-i in
    (c.loop-i-test.true, c.if-byte-eq125.true, only_here c.args.bytes.now l.i l.place c.loop-i-test.true l.invariant.walked (sym c.behind.ensures ∙ c.in-None.is))

pub returns-in-None-2 : goal.returns-in-None-2
returns-in-None-2 c = λ i less curly has.
    let l = c.loop-i in
    let same = only_here c.args.bytes.now l.i l.place c.loop-i-test.true l.invariant.walked (sym c.behind.ensures ∙ c.in-None.is) i less curly has in
    c.if-byte-eq125.false (subst (λ k. slice_index c.args.bytes.now k ≡ 125) same curly)

pub loop-i-preserved : goal.loop-i-preserved
loop-i-preserved c =
    let l = c.loop-i in
    let next = sym c.behind.ensures ∙ c.in-Some.is in
    record {
      walked = one_more c.args.bytes.now l.i l.place c.loop-i-test.true l.invariant.walked ∙ next;
      few = one_deeper (slice_index c.args.bytes.now l.i) l.i l.place c.in-Some.next next l.invariant.few;
    }

pub returns : goal.returns
returns c = λ i less curly has. none_walked c.args.bytes.now c.loop-i.i c.loop-i.place c.loop-i.invariant.walked i less (omega arith) curly has
