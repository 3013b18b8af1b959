use Rattle.std.proofs.Common.{List, ap, ◌∙◌}
use Rattle.farm_text.specs.Doc.{document, documents}
use Rattle.farm_text.specs.declared.doc.Doc.TheVariants.{List as ListDoc}
use Rattle.farm_text.proofs.DocLemmas.{document-List}
use Rattle.jsone_render.specs.Answers.{pairs_of}
use Rattle.jsone_render.specs.Sorting.{are_of_one_kind}
use Rattle.jsone_render.proofs.SortLemmas.{Pair, not_sorted, sorted_as}
use Rattle.jsone_render.proofs.sorting.sort_of.Goals as goal

pub returns-then-not-are_of_one_kind : goal.returns-then-not-are_of_one_kind
returns-then-not-are_of_one_kind c =
    not_sorted (pairs_of c.args.pairs.items) (c.if-not-are_of_one_kind.ensures ∙ ap (λ (ps : List Pair). are_of_one_kind (pairs_of ps)) c.deref.ensures.value)

pub returns-in-Ok : goal.returns-in-Ok
returns-in-Ok c =
    sorted_as (pairs_of c.args.pairs.items) (document (ListDoc c.in-Ok.items)) (documents c.in-Ok.items.items) (c.if-not-are_of_one_kind.ensures ∙ ap (λ (ps : List Pair). are_of_one_kind (pairs_of ps)) c.deref.ensures.value)
    c.in-Ok.ensures (document-List c.in-Ok.items)
