use Rattle.std.proofs.Common.{◌≡◌, ◌+◌, ◌-◌, ◌∷◌, [], ◌++◌, length, sym, ◌∙◌, ap, subst, arith, rules, length-append}
use Rattle.farm_record.specs.Reading.{names_at}
use Rattle.farm_record.proofs.LoopLemmas.{with_front, goes_on, ends, ends_whole, ends_before}
use Rattle.farm_record.proofs.runs.names_of.Goals as goal

pub returns-in-Err-clause-names : goal.returns-in-Err-clause-names
returns-in-Err-clause-names c =
    ends c.in-Err.unread c.loop.names.items c.args.count c.loop.counter c.loop.rest.now (names_at c.args.count c.args.bytes.now) c.loop-test.true c.in-Err.ensures c.loop.invariant.0

pub loop-preserved : goal.loop-preserved
loop-preserved c =
    let name = c.in-Ok.read.0 in
    let pushed : c.keep.new.names.items ≡ c.loop.names.items ++ name ∷ [] = c.in_ok-keep.ensures in
    let on = goes_on c.loop.names.items c.args.count c.loop.counter c.loop.rest.now name c.in-Ok.read.1.now (names_at c.args.count c.args.bytes.now) c.loop-test.true c.in-Ok.ensures c.loop.invariant.0 in
    let long : length c.keep.new.names.items ≡ c.loop.counter + 1 = ap length pushed ∙ length-append c.loop.names.items (name ∷ []) ∙ omega (arith, c.loop.invariant.1) in
    (subst (λ ns. with_front ns (names_at (c.args.count - (c.loop.counter + 1)) c.in-Ok.read.1.now) ≡ names_at c.args.count c.args.bytes.now) (sym pushed) on, long)

pub returns-then-not-is_empty-clause-names : goal.returns-then-not-is_empty-clause-names
returns-then-not-is_empty-clause-names c =
    ends_before c.loop.names.items c.args.count c.loop.counter c.loop.rest.now (names_at c.args.count c.args.bytes.now) c.loop-test.false c.loop.invariant.0 (search rules)

pub returns-clause-names : goal.returns-clause-names
returns-clause-names c =
    ends_whole c.loop.names.items c.args.count c.loop.counter c.loop.rest.now (names_at c.args.count c.args.bytes.now) c.loop-test.false c.loop.invariant.0 (search rules)
