use Rattle.std.proofs.Common.{ℕ, List, sym, ap, ◌∙◌}
use Rattle.jsone_expr.specs.declared.tokens.Span.{Span}
use Rattle.jsone_eval.specs.Machine.{values_in, parts_in}
use Rattle.jsone_eval.specs.Values.{text_at, key_span}
use Rattle.jsone_eval.proofs.MachineLemmas.{gathers_member, key_fault}
use Rattle.jsone_eval.proofs.machine.Machine.gather_member.Goals as goal

pub returns-in-Ok : goal.returns-in-Ok
returns-in-Ok c = λ s same.
    let self = c.args.self.now in
    let found = ap (λ (t : List ℕ). text_at t (key_span c.args.key)) same ∙ ap (λ (p : Span). text_at c.args.text.now p) (sym c.key_span.ensures) ∙ c.in-Ok.ensures in
    gathers_member (text_at s.source (key_span c.args.key)) c.in-Ok.name.now (values_in self) (parts_in self) self.passed self.spent c.gather_at.result c.gather_at.new.self found c.gather_at.ensures

pub returns-in-Err : goal.returns-in-Err
returns-in-Err c = λ s same.
    let self = c.args.self.now in
    let found = ap (λ (t : List ℕ). text_at t (key_span c.args.key)) same ∙ ap (λ (p : Span). text_at c.args.text.now p) (sym c.key_span.ensures) ∙ c.in-Err.ensures in
    key_fault (text_at s.source (key_span c.args.key)) c.in-Err.fault (values_in self) (parts_in self) self.passed self.spent found
