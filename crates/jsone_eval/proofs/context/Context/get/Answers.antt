use Rattle.std.proofs.Common.{List, option_map, ap, ◌∙◌}
use Rattle.farm_text.specs.Doc.{document, documents}
use Rattle.farm_text.specs.declared.doc.Doc.{Doc}
use Rattle.jsone_eval.specs.Scopes.{bound_by}
use Rattle.jsone_eval.proofs.ContextLemmas.{outermost, one_binding, no_binding_left}
use Rattle.jsone_eval.proofs.context.Context.get.Goals as goal

pub loop-binding-init : goal.loop-binding-init
loop-binding-init c =
    ap (λ (xs : List Doc). bound_by (option_map (λ d. document d.now) c.get-found.result) c.args.name.now (documents xs)) c.deref-binding-items.ensures.value
    ∙ outermost _ c.args.name.now (document c.args.self.now.outermost.now) (documents c.args.self.now.bindings.items) c.get-found.ensures

pub loop-binding-preserved : goal.loop-binding-preserved
loop-binding-preserved c =
    one_binding _ _ _ _ c.args.name.now c.deref-binding-items.result.now c.loop-binding.binding-index c.binding-item.result c.loop-binding-test.true c.binding-item.is c.get.ensures c.nearest-found.ensures c.loop-binding.invariant

pub returns : goal.returns
returns c = no_binding_left _ _ c.args.name.now c.deref-binding-items.result.now c.loop-binding.binding-index c.loop-binding-test.false c.loop-binding.invariant
