use Rattle.std.proofs.Common.{◌≡◌, ◌-◌, ◌<◌, ℕ, List, Vec, All, length, drop, take, reverse, sym, subst, arith, length-drop}
use Rattle.std.specs.declared.alloc.Global.{Global}
use Rattle.std.proofs.lemmas.Result.{IfOk-weaker}
use Rattle.std.proofs.lemmas.Bool.Decides.{nat_tests}
use Rattle.disk_base.specs.History.{MayLeave}
use Rattle.disk_base.specs.Steps.{calls_of}
use Rattle.disk_base.proofs.ImageLemmas.{all_torn, all_shortened, wrote_last, cut_last}
use Rattle.disk_base.proofs.images.+images_after.Goals as goal

pub returns-in_ok-befores-in-Wrote : goal.returns-in_ok-befores-in-Wrote
returns-in_ok-befores-in-Wrote t c =
    let some : 0 < length c.args.steps.now = grind (arith, nat_tests) in
    let from : ℕ = length c.args.arena.now - c.in-Wrote.size in
    let is : c.saturating_sub-from.result ≡ from = c.saturating_sub-from.ensures in
    let steps = take (length c.args.steps.now - 1) c.args.steps.now in
    let may : All (λ (v : Vec ℕ Global). MayLeave c.args.first.now (calls_of (take from c.args.arena.now) (reverse steps)) v.items) c.in_ok-befores-in-Wrote.befores.items =
    subst (λ f. All (λ (v : Vec ℕ Global). MayLeave c.args.first.now (calls_of (take f c.args.arena.now) (reverse steps)) v.items) c.in_ok-befores-in-Wrote.befores.items) is c.in_ok-befores-in-Wrote.ensures in
    IfOk-weaker c.tear_each.result _ _ (λ images torn.
    all_torn _ (drop from c.args.arena.now) _ (length c.args.arena.now - c.saturating_sub-from.result) c.in-Wrote.done _ _ c.deref.result.now images.items
    (wrote_last c.args.arena.now c.args.steps.now _ c.in-Wrote.at c.in-Wrote.size c.in-Wrote.done some c.in-Wrote.is)
    (omega (arith, length-drop {A = ℕ})) (subst (λ (l : List (Vec ℕ Global)). All (λ (v : Vec ℕ Global). MayLeave c.args.first.now (calls_of (take from c.args.arena.now) (reverse steps)) v.items) l) (sym c.deref.ensures.value) may) torn) c.tear_each.ensures

pub returns-in_ok-befores-in-Cut : goal.returns-in_ok-befores-in-Cut
returns-in_ok-befores-in-Cut t c =
    let some : 0 < length c.args.steps.now = grind (arith, nat_tests) in
    let steps = take (length c.args.steps.now - 1) c.args.steps.now in
    IfOk-weaker c.shorten_each.result _ _ (λ images short.
    all_shortened _ _ c.in-Cut.done _ _ c.deref-in-Cut.result.now images.items
    (cut_last c.args.arena.now c.args.steps.now _ c.in-Cut.size c.in-Cut.done some c.in-Cut.is)
    (subst (λ (l : List (Vec ℕ Global)). All (λ (v : Vec ℕ Global). MayLeave c.args.first.now (calls_of c.args.arena.now (reverse steps)) v.items) l) (sym c.deref-in-Cut.ensures.value) c.in_ok-befores-in-Cut.ensures) short) c.shorten_each.ensures
