use Rattle.jsone_render.proofs.SomeRendering.{some_rendering}
use Rattle.jsone_render.proofs.laws.each_template_has_an_outcome.Goals as goal

pub returns : goal.returns
returns c = some_rendering
