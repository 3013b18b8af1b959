use Rattle.std.proofs.Common.{◌≡◌, length, ap, ◌∙◌, rules, arith}
use Rattle.std.proofs.lemmas.List.{with_items_is}
use Rattle.farm_rows.specs.Deeds.{rows_after}
use Rattle.farm_rows.proofs.shown.shown.Goals as goal

pub returns : goal.returns
returns c =
    let rows = c.in-Ok.shown in
    let new = c.make.new.rows in
    let len : length new ≡ rows.len = search (rules, arith) in
    with_items_is rows new len ∙ (c.make.ensures.rows ∙ ap (rows_after c.args.at c.args.number c.args.deed.now) (c.deref_mut.ensures.value ∙ c.in-Ok.ensures))
