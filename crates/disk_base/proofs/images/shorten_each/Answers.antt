use Rattle.std.proofs.Common.{◌≡◌, ◌++◌, ℕ, List, Vec, All, Any, rules, subst, sym}
use Rattle.std.specs.declared.alloc.Global.{Global}
use Rattle.disk_base.specs.Calls.{Shortened}
use Rattle.disk_base.proofs.ImageLemmas.{All-from}
use Rattle.disk_base.proofs.images.shorten_each.Goals as goal

pub loop-before-preserved : goal.loop-before-preserved
loop-before-preserved c =
    let R : Vec ℕ Global → Vec ℕ Global → Type 0 = λ before image. Shortened c.args.size before.items image.items in
    let each : All (R c.before-item.result) c.in_ok-more.more.items = subst (λ (l : List ℕ). All (λ (image : Vec ℕ Global). Shortened c.args.size l image.items) c.in_ok-more.more.items) c.deref.ensures.value c.in_ok-more.ensures in
    let longer : c.append.new.self.items ≡ c.loop-before.images.items ++ c.in_ok-more.more.items = search rules in
    subst (λ (l : List (Vec ℕ Global)). All (λ image. Any (λ before. R before image) c.args.befores.now) l) (sym longer) (All-from R _ _ _ _ _ c.loop-before-test.true c.before-item.is c.loop-before.invariant each)
