use Rattle.farm_text.proofs.SlugLemmas.{uuid_of_slug, slug_of_uuid, slug_text-one}
use Rattle.farm_text.proofs.slug.slugs_are_texts_of_uuids.Goals as goal

pub returns-clause-reads : goal.returns-clause-reads
returns-clause-reads c = uuid_of_slug

pub returns-clause-writes : goal.returns-clause-writes
returns-clause-writes c = slug_of_uuid

pub returns-clause-one : goal.returns-clause-one
returns-clause-one c = slug_text-one
