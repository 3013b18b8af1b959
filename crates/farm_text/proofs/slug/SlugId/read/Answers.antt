use Rattle.std.proofs.Common.{arith}
use Rattle.farm_text.proofs.SlugLemmas.{slug_of_found}
use Rattle.farm_text.proofs.slug.SlugId.read.Goals as goal

pub returns-clause-exact : goal.returns-clause-exact
returns-clause-exact c =
    slug_of_found c.args.text.now c.find.result (λ i. let f = c.type_inv.text i in omega arith) c.find.ensures.valid c.find.ensures.value c.find.ensures.uuid
