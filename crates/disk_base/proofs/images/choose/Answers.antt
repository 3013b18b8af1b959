use Rattle.std.proofs.Common.{ℕ, List, Vec, All, subst, sym}
use Rattle.std.specs.declared.alloc.Global.{Global}
use Rattle.disk_base.specs.Calls.{Torn}
use Rattle.disk_base.proofs.ImageLemmas.{All-added}
use Rattle.disk_base.proofs.images.choose.Goals as goal

pub loop-choice-preserved : goal.loop-choice-preserved
loop-choice-preserved c =
    let P : Vec ℕ Global → Type 0 = λ image. Torn c.args.tearing.at c.args.tearing.size c.args.tearing.before.now image.items in
    subst (λ (l : List (Vec ℕ Global)). All P l) (sym c.in_ok-add.ensures) (All-added P _ _ c.loop-choice.invariant c.in_ok-with_choice.ensures)
