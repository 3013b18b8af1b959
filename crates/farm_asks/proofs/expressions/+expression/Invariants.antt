use Rattle.std.proofs.Common.{◌≡◌, map, take}
use Rattle.farm_text.specs.Doc.{documents}
use Rattle.farm_asks.proofs.ExpressionLemmas.{document_for}
use Rattle.farm_asks.proofs.expressions.+expression.Given as goal

-- the documents so far are those of the expressions so far
abbrev pub invariant-member_docs-loop-member : goal.invariant-member_docs-loop-member
invariant-member_docs-loop-member l = documents l.docs.items ≡ map document_for (take l.member-index l.member-items)
