use Rattle.std.proofs.Common.{ap, ◌∙◌}
use Rattle.farm_text.specs.Doc.{document, documents}
use Rattle.farm_text.proofs.DocLemmas.{document-List}
use Rattle.jsone_render.specs.Answers.{pairs_of}
use Rattle.jsone_render.proofs.SortLemmas.{sorted_alone}
use Rattle.jsone_render.proofs.sorting.sort_alone.Goals as goal

pub returns-in-Ok : goal.returns-in-Ok
returns-in-Ok c =
    sorted_alone (document c.args.value) (documents c.in-List.items.items) (pairs_of c.in-Ok.pairs.items) c.sort_of.result (ap document c.in-List.is ∙ document-List c.in-List.items) c.in-Ok.ensures c.sort_of.ensures
