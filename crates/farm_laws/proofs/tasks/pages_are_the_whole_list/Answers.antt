use Rattle.farm_laws.proofs.PageLemmas.{page-and-rest, pages-whole}
use Rattle.farm_laws.proofs.tasks.pages_are_the_whole_list.Goals as goal

pub returns-clause-page : goal.returns-clause-page
returns-clause-page c = page-and-rest

pub returns-clause-whole : goal.returns-clause-whole
returns-clause-whole c = pages-whole
