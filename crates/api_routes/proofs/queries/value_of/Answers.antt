use Rattle.std.proofs.Common.{◌≡◌, List, ℕ, map, take, bytes_eq, true, false, sym, ◌∙◌, ◌+◌, subst, arith}
use Rattle.api_routes.specs.declared.queries.Value.{Value}
use Rattle.api_routes.specs.Queries.{values_in}
use Rattle.api_routes.specs.Values.{IsValue}
use Rattle.api_routes.proofs.QueryLemmas.{value-named, value-other}
use Rattle.api_routes.proofs.queries.value_of.Goals as goal
use Rattle.api_routes.proofs.queries.value_of.Goals.{then-eq, else-eq}

pub loop-piece-preserved : goal.loop-piece-preserved
loop-piece-preserved c =
    let name = c.args.name.now in
    let pieces = c.args.pieces.now in
    let place = c.loop-piece.piece-index in
    let P : Value → Type 0 = IsValue (values_in name (map (λ piece. piece.now) (take (place + 1) pieces))) in
    elim c.if-eq.branch [
      | then-eq w ↦
          let named : bytes_eq c.cut.result.0.now name ≡ true = subst (λ (n : List ℕ). bytes_eq c.cut.result.0.now n ≡ true) c.as_bytes.ensures.value (sym c.eq.ensures ∙ w.if-eq.true) in
          subst P (sym w.value-is) (value-named name pieces place _ c.cut.result.0.now c.cut.result.1.now c.loop-piece.value w.with_one_more-value.result (omega arith) c.cut.ensures.before c.cut.ensures.behind named c.loop-piece.invariant w.with_one_more-value.ensures)
      | else-eq w ↦
          let other : bytes_eq c.cut.result.0.now name ≡ false = subst (λ (n : List ℕ). bytes_eq c.cut.result.0.now n ≡ false) c.as_bytes.ensures.value (sym c.eq.ensures ∙ w.if-eq.false) in
          subst P (sym w.value-is) (value-other name pieces place _ c.cut.result.0.now c.loop-piece.value (omega arith) c.cut.ensures.before other c.loop-piece.invariant)
    ]
