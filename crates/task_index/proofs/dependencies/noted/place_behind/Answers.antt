use Rattle.std.proofs.Common.{◌≡◌, ◌+◌, true, false, cond, length, bytes_eq, ap, sym, ◌∙◌, arith}
use Rattle.task_index.proofs.BehindLemmas.{place-known, place-unknown}
use Rattle.task_index.proofs.dependencies.noted.place_behind.Goals as goal

pub returns-in-Some-clause-place : goal.returns-in-Some-clause-place
returns-in-Some-clause-place c = place-known c.args.rows.now c.args.id c.args.named c.in-Some.place (sym c.in-Some.ensures)

pub returns-in-None-clause-place : goal.returns-in-None-clause-place
returns-in-None-clause-place c =
    let rows = c.args.rows.now in
    let same : bytes_eq c.args.id c.args.named ≡ true = sym c.eq.ensures ∙ c.if-eq.true in
    let last : length rows ≡ length rows + 0 = omega arith in
    last ∙ sym (place-unknown rows c.args.id c.args.named (sym c.in-None.ensures) ∙ ap (λ b. length rows + cond b 0 1) same)

pub returns-in-None-2-clause-place : goal.returns-in-None-2-clause-place
returns-in-None-2-clause-place c =
    let rows = c.args.rows.now in
    let other : bytes_eq c.args.id c.args.named ≡ false = sym c.eq.ensures ∙ c.if-eq.false in
    sym (place-unknown rows c.args.id c.args.named (sym c.in-None.ensures) ∙ ap (λ b. length rows + cond b 0 1) other)
