use Rattle.farm_text.specs.Doc.{document}
use Rattle.jsone_render.proofs.ScopeLemmas.{released}
use Rattle.jsone_render.proofs.renderer.Renderer.release.Goals as goal

pub returns-clause-scopes : goal.returns-clause-scopes
returns-clause-scopes c = λ before more e size.
    let context = c.args.self.now.context in
    released (document context.outermost.now) context.bindings.items c.truncate.new.self.items before more c.args.height e size c.truncate.ensures.items
