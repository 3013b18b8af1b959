use Rattle.std.proofs.Common.{◌≡◌, rules}
use Rattle.farm_text.specs.Slug.{slug_text}
use Rattle.farm_text.proofs.SlugLemmas.{slug_of_uuid}
use Rattle.farm_text.proofs.slug.SlugId.text.Goals as goal

pub returns-clause-slug : goal.returns-clause-slug
returns-clause-slug c =
    let text : c.encode_slice.new.output ≡ slug_text c.self.inside.uuid = search rules in
    rw text (slug_of_uuid c.self.inside.uuid c.self.invariant)
