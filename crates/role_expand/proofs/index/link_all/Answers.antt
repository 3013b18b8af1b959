use Rattle.std.proofs.Common.{◌≡◌, ℕ, ◌<◌, ◌∷◌, [], List, arith, sym, ap, ◌∙◌, subst, length, get_or, length-append}
use Rattle.role_expand.specs.Index.{text_of, Begins}
use Rattle.role_expand.specs.declared.index.RoleKey.{RoleKey}
use Rattle.std.proofs.lemmas.List.{get_or_default}
use Rattle.role_expand.proofs.IndexLemmas.{links_push, under_place}
use Rattle.role_expand.proofs.index.link_all.Goals as goal

pub loop-place-preserved : goal.loop-place-preserved
loop-place-preserved c =
    let keys : List RoleKey = c.args.keys.now in
    let links : List ℕ = c.loop-place.links.items in
    let place : ℕ = c.loop-place.place in
    let key : RoleKey = c.index-keys-place.result in
    let len : length links ≡ place = c.loop-place.invariant.0 in
    let lt : place < length keys = omega (arith, c.loop-place-test.true) in
    let text : (d : RoleKey) → text_of (get_or keys place d) ≡ c.as_str.result.now =
    λ d. ap text_of (get_or_default keys place d key lt) ∙ sym c.as_str.ensures.value in
    rw c.in_ok-push.ensures.items (
      omega (arith, length-append links (c.nearest-at.result ∷ []), len),
      links_push keys links c.nearest-at.result c.loop-place.invariant.1 (omega (arith, c.nearest-at.ensures.bound, len))
          (λ j low b. c.nearest-at.ensures.whole j
          (under_place keys c.requires place j lt (omega (arith, low, len)) (subst (λ (n : ℕ). (d : RoleKey) → Begins (text_of (get_or keys n d)) (text_of (get_or keys j d))) len b))
          (λ d. subst (λ (t : List ℕ). Begins t (text_of (get_or keys j d))) (ap (λ (n : ℕ). text_of (get_or keys n d)) len ∙ text d) (b d))),
    )
