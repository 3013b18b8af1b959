use Rattle.std.proofs.Common.{◌≡◌, ℕ, ◌-◌, ◌≤◌, List, arith, sym, ap, ◌∙◌, subst, length, get_or}
use Rattle.std.proofs.lemmas.Bool.{both_ways}
use Rattle.role_expand.specs.Index.{text_of, Begins}
use Rattle.role_expand.specs.declared.index.RoleKey.{RoleKey}
use Rattle.role_expand.proofs.IndexLemmas.{under_link}
use Rattle.role_expand.proofs.EdgeLemmas.{begins}
use Rattle.role_expand.proofs.index.nearest.Goals as goal

pub loop-at-preserved : goal.loop-at-preserved
loop-at-preserved c =
    let at : ℕ = c.loop-at.at in
    let keys : List RoleKey = c.args.keys.now in
    let key : RoleKey = c.index-keys-at.result in
    let fits : at ≤ length c.args.links.now = omega (arith, c.loop-at.invariant.bound, c.requires.from_in) in
    let back = c.requires.linked.back (at - 1) (omega (arith, c.loop-at-test.true)) in
    let text : c.as_str.result.now ≡ text_of key = c.as_str.ensures.value ∙ ap text_of (sym c.index-keys-at.is) in
    let front = begins c.starts_with.result c.as_str.result.now c.args.text.now c.starts_with.ensures.cases in
    let none : Begins c.args.text.now (text_of key) → ⊥ = λ b. both_ways _ c.if-not-starts_with.true (front.1 (rw text b)) in
    record {
      bound = omega (arith, back, c.loop-at.invariant.bound);
      whole = λ j u b. under_link keys c.args.links.now c.requires.linked at j (omega (arith, c.loop-at-test.true)) fits (c.loop-at.invariant.whole j u b)
          (λ e. none (subst (λ (k : RoleKey). Begins c.args.text.now (text_of k)) (ap (λ (n : ℕ). get_or keys n key) e ∙ sym c.index-keys-at.is) (b key)));
    }
