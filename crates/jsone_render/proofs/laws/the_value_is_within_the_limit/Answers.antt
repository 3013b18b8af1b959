use Rattle.jsone_render.specs.Outcomes.{given}
use Rattle.jsone_render.proofs.PriceLemmas.{rendered_light}
use Rattle.jsone_render.proofs.laws.the_value_is_within_the_limit.Goals as goal

pub returns : goal.returns
returns c = λ template context d spent is. rendered_light template context (given d spent) is
