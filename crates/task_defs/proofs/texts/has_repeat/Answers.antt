use Rattle.std.proofs.Common.{◌≡◌, refl, sym, ap, ◌∙◌, not, Bool, true, false, get_or, subst, List, Bor, ℕ}
use Rattle.task_defs.proofs.TextLemmas.{HasSeen, seen_more, seen_twice, map_now_more, nothing_seen, past_end}
use Rattle.task_defs.proofs.texts.has_repeat.Goals as goal

not_flips : (a b : Bool) → a ≡ not b → not a ≡ b
not_flips a true e = ap not e
not_flips a false e = ap not e

pub loop-text-init : goal.loop-text-init
loop-text-init c = subst (λ (k : List (Bor (List ℕ))). HasSeen k _) (sym c.new-seen.ensures.empty) nothing_seen

pub returns-then-not-branch : goal.returns-then-not-branch
returns-then-not-branch c =
    let texts = c.args.texts.now in
    let i = c.loop-text.text-index in
    seen_twice _ texts i past_end (get_or texts i past_end) c.loop-text.invariant c.loop-text-test.true refl (sym (not_flips _ _ c.in_ok-insert.ensures.added) ∙ ap not c.if-not-branch.true)

pub loop-text-preserved : goal.loop-text-preserved
loop-text-preserved c =
    let texts = c.args.texts.now in
    let i = c.loop-text.text-index in
    seen_more _ _ _ _ (get_or texts i past_end) c.loop-text.invariant (map_now_more texts i past_end _ c.loop-text-test.true refl)
    (sym (not_flips _ _ c.in_ok-insert.ensures.added) ∙ ap not c.if-not-branch.false) c.in_ok-insert.ensures.updates.0
