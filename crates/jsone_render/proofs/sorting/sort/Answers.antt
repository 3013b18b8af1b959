use Rattle.std.proofs.Common.{rules}
use Rattle.std.proofs.lemmas.List.Sorted.{answers_always}
use Rattle.jsone_render.proofs.SortLemmas.{pair_before, pair_order, sorting_made}
use Rattle.jsone_render.proofs.sorting.sort.Goals as goal

pub returns : goal.returns
returns c =
    sorting_made c.args.pairs.items c.sort_by.new.self.items c.values_of.result
    (c.in_ok-sort_by.ensures.sorted pair_before pair_order (answers_always _ _ _ (λ f a r g h. search rules)))
    (c.in_ok-sort_by.ensures.stable pair_before pair_order (answers_always _ _ _ (λ f a r g h. search rules)))
    c.values_of.ensures
