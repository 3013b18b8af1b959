use Rattle.farm_text.specs.Doc.{document}
use Rattle.hook_fire.proofs.defaults.with_defaults.Goals as goal

pub returns : goal.returns
returns c = record {
  created = document c.in_ok-created.created;
  with_created = c.in_ok-created.ensures;
  with_deadline = rw c.a_day_after.ensures at c.in_ok-whole.ensures;
}
