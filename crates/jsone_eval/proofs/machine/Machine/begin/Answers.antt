use Rattle.std.proofs.Common.{◌≡◌, [], ◌∷◌, ap, ◌∙◌}
use Rattle.jsone_eval.specs.Machine.{Part, part_of, went, values_in, parts_in}
use Rattle.jsone_eval.proofs.MachineLemmas.{does_so}
use Rattle.jsone_eval.proofs.machine.Machine.begin.Goals as goal

pub returns : goal.returns
returns c = λ s.
    let self = c.args.self.now in
    let vs = values_in self in
    let gs = parts_in self in
    does_so (λ p. p ≡ went vs (part_of c.new.result ∷ gs) self.passed self.spent) (λ p. p ≡ went vs (([], []) ∷ gs) self.passed self.spent) (λ p e. e ∙ ap (λ (g : Part). went vs (g ∷ gs) self.passed self.spent) c.new.ensures) c.keep.result c.keep.new.self c.keep.ensures
