-- What a joined pass has seen is legal.
use Rattle.std.proofs.Common.{refl, ap, ◌∙◌}
use Rattle.shared_desk.specs.Standing.{Standing}
use Rattle.shared_desk.proofs.pass.Pass.join.Goals as goal

pub returns-clause-stands : goal.returns-clause-stands
returns-clause-stands g c =
    λ opening is.
    let began = c.join.ensures.joined.opening ∙ (ap (λ (s : Standing g.row.O-Law-State.Denot g.row.O-Law-Entry.Denot). s.opening) c.self.view_is ∙ is) in
    (refl, refl, began, c.join.ensures.legal (g.O.Law.Machine.start opening) began)
