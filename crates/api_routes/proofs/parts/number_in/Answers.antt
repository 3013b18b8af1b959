use Rattle.std.proofs.Common.{decimal, bytes_eq, sym, ◌∙◌, arith}
use Rattle.api_routes.proofs.NumberLemmas.{find_first, find_none}
use Rattle.api_routes.proofs.parts.number_in.Goals as goal

pub returns-then-is_number-clause-value : goal.returns-then-is_number-clause-value
returns-then-is_number-clause-value c =
    sym (find_first (λ n. bytes_eq (decimal n) c.args.text.now) c.args.first c.args.count c.loop-number.number (omega arith) (omega arith) (sym c.is_number.ensures ∙ c.if-is_number.true) (λ k from to. c.loop-number.invariant k from to))

pub returns-clause-value : goal.returns-clause-value
returns-clause-value c =
    sym (find_none (λ n. bytes_eq (decimal n) c.args.text.now) c.args.first c.args.count (λ k from to. c.loop-number.invariant k from (omega arith)))
