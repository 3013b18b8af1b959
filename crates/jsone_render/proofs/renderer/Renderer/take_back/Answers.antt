use Rattle.farm_text.specs.Doc.{document}
use Rattle.jsone_render.specs.Bindings.{single}
use Rattle.jsone_render.proofs.ScopeLemmas.{popped}
use Rattle.jsone_render.proofs.renderer.Renderer.take_back.Goals as goal

pub returns-in-Some-clause-scopes : goal.returns-in-Some-clause-scopes
returns-in-Some-clause-scopes c = λ before name d some e.
    let context = c.args.self.now.context in
    (popped (document context.outermost.now) context.bindings.items c.pop.new.self.items c.in-Some.map before (single name d) c.in-Some.ensures.items e).0

pub returns-in-Some-clause-value : goal.returns-in-Some-clause-value
returns-in-Some-clause-value c = λ before name d some e.
    let context = c.args.self.now.context in
    c.only_value.ensures name d (popped (document context.outermost.now) context.bindings.items c.pop.new.self.items c.in-Some.map before (single name d) c.in-Some.ensures.items e).1
