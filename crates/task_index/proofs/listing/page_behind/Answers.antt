use Rattle.std.proofs.Common.{List, ℕ, length, nat_lt, take, ap, sym, ◌∙◌}
use Rattle.task_groups.specs.Pages.{rows_after}
use Rattle.task_index.proofs.MemberLemmas.{after-before}
use Rattle.task_index.proofs.listing.page_behind.Goals as goal

pub returns-clause-places : goal.returns-clause-places
returns-clause-places c =
    let places = c.args.places.now in
    c.page_from.ensures.places
    ∙ (ap (take c.from.result) (sym (after-before c.args.after c.first_behind.result places c.first_behind.ensures)) ∙ ap (λ n. take n (rows_after c.args.after places)) c.from.ensures)

pub returns-clause-more : goal.returns-clause-more
returns-clause-more c =
    let places = c.args.places.now in
    c.page_from.ensures.more
    ∙ (ap (λ (ps : List ℕ). nat_lt c.from.result (length ps)) (sym (after-before c.args.after c.first_behind.result places c.first_behind.ensures))
    ∙ ap (λ n. nat_lt n (length (rows_after c.args.after places))) c.from.ensures)
