use Rattle.jsone_render.proofs.OneRendering.{one_rendering}
use Rattle.jsone_render.proofs.laws.the_rendering_is_one.Goals as goal

pub returns : goal.returns
returns c = one_rendering
