use Rattle.std.proofs.Common.{map, ap, ◌∙◌, arith}
use Rattle.std.proofs.lemmas.List.{take_all}
use Rattle.farm_text.specs.Document.{items_of}
use Rattle.farm_asks.proofs.ExpressionLemmas.{document_for, items_of-map}
use Rattle.farm_asks.proofs.expressions.+expression.Goals as goal

pub member_docs-returns : goal.member_docs-returns
member_docs-returns t c =
    let xs = c.deref-member-items.result.now in
    let whole = take_all c.loop-member.member-index xs (omega arith) in
    ap items_of (c.loop-member.invariant ∙ ap (map document_for) whole) ∙ rw c.deref-member-items.ensures.value (items_of-map c.args.members.now.items)
