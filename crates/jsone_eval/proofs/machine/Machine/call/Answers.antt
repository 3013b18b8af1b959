use Rattle.std.proofs.Common.{List, map, reverse, subst}
use Rattle.farm_text.specs.Doc.{documents}
use Rattle.farm_text.specs.declared.doc.Doc.{Doc}
use Rattle.jsone_values.specs.Meets.{MeetsWithin}
use Rattle.jsone_eval.specs.Calls.{IsCall}
use Rattle.jsone_eval.specs.Machine.{values_in, part_of, parts_in}
use Rattle.jsone_eval.specs.Scopes.{scopes_of}
use Rattle.jsone_eval.proofs.MachineLemmas.{pays_for_call}
use Rattle.jsone_eval.proofs.machine.Machine.call.Goals as goal

pub returns : goal.returns
returns c = λ s same.
    let self = c.args.self.now in
    let function = c.args.word.function in
    let scopes = scopes_of c.args.context.now in
    rw same
    (pays_for_call (λ g. IsCall function scopes g.0) c.called-found.result (values_in self) (parts_in self) (map part_of (reverse c.take_gathered-part.new.gathered.items)) (part_of c.take_gathered-part.result) self.passed self.spent c.pay_within.result c.pay_within.new.self
    c.take_gathered-part.ensures.top c.take_gathered-part.ensures.below (subst (λ (ds : List Doc). MeetsWithin 1000000 (IsCall function scopes (documents ds)) c.called-found.result) c.deref.ensures.value c.called-found.ensures) c.pay_within.ensures)
