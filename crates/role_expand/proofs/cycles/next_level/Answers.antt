use Rattle.std.proofs.Common.{◌≡◌, ◌<◌, ℕ, List, length, get_or, sym, ◌∙◌, arith}
use Rattle.std.proofs.lemmas.Bool.{both_ways}
use Rattle.std.proofs.lemmas.List.{get_or_default}
use Rattle.role_expand.specs.Roles.{roles_data}
use Rattle.role_expand.specs.Levels.{LeadsInto}
use Rattle.role_expand.proofs.LevelLemmas.{next_begin, next_pass, next_take}
use Rattle.role_expand.proofs.cycles.next_level.Goals as goal
use Rattle.role_expand.proofs.cycles.next_level.Goals.{then-index-eq0+then-leads_into+in_ok-push, else-index-eq0, else-index-eq0-via-then-index-eq0+else-leads_into, else-index-eq0-via-else-index-eq0}

pub loop-from-init : goal.loop-from-init
loop-from-init c = rw c.new-next.ensures.items (next_begin (roles_data c.args.roles.now) c.args.level.now c.args.count c.requires.counts c.args.steps.now.items)

pub loop-from-preserved : goal.loop-from-preserved
loop-from-preserved c =
    let n : ℕ = c.loop-from.from in
    let old : List ℕ = c.args.steps.now.items in
    let now : List ℕ = c.loop-from.steps.items in
    let lt : n < length old = omega (arith, c.requires.steps_len) in
    let within : n < length now = omega (arith, c.loop-from.invariant.len) in
    let read : get_or now n 0 ≡ c.index.result.now = get_or_default now n 0 c.index.result.now within ∙ sym c.index.ensures in
    (elim c.if-index-eq0.branch [
      | then-index-eq0+then-leads_into+in_ok-push w ↦
          rw (w.steps-is, w.next-is, w.in_ok-push.ensures.items)
          (next_take (roles_data c.args.roles.now) c.args.level.now c.args.count c.requires.counts old now c.loop-from.next.items n lt c.loop-from.invariant (read ∙ w.if-index-eq0.true) (w.leads_into.ensures.0 w.if-leads_into.true))
      | else-index-eq0 w ↦ rw (w.steps-is, w.next-is)
          (next_pass (roles_data c.args.roles.now) c.args.level.now c.args.count c.requires.counts old now c.loop-from.next.items n lt c.loop-from.invariant
          (elim w.else-index-eq0.branch as (λ _. get_or now n 0 ≡ 0 → ¬ LeadsInto (roles_data c.args.roles.now) c.args.level.now n) [
            | else-index-eq0-via-then-index-eq0+else-leads_into v ↦ λ none leads. both_ways _ v.if-leads_into.false (v.leads_into.ensures.1 leads)
            | else-index-eq0-via-else-index-eq0 v ↦ λ none leads. absurd (v.if-index-eq0.false (sym read ∙ none))
          ]))
    ])
