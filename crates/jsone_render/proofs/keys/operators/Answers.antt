use Rattle.std.proofs.Common.{◌≡◌, [], ◌∷◌, ◌++◌, ℕ, List, Bool, refl, sym, ap, subst, ◌∙◌}
use Rattle.std.specs.List.{filter}
use Rattle.farm_text.proofs.DocLemmas.{Entry}
use Rattle.jsone_render.specs.Answers.{AreOthers}
use Rattle.jsone_render.specs.Maps.{is_operator_key}
use Rattle.jsone_render.proofs.KeyLemmas.{keys_in, counted, none_left}
use Rattle.jsone_render.proofs.keys.operators.Goals as goal

pub loop-key-init : goal.loop-key-init
loop-key-init c =
    let p : List ℕ → Bool = is_operator_key in
    ([], refl, ap (λ (es : List Entry). filter p (keys_in es)) (c.into_iter-key-iterator.ensures.into_iter_gives ∙ c.iter-key-items.ensures.rest))

pub loop-key-preserved : goal.loop-key-preserved
loop-key-preserved c =
    let p : List ℕ → Bool = is_operator_key in
    let (ks, are, e) = c.loop-key.invariant in
    let k = c.as_str.result.now in
    let left = keys_in c.next.new.self in
    let rest : keys_in c.loop-key.key-iterator ≡ k ∷ left = ap keys_in c.in-Some.ensures.steps ∙ ap (λ (x : List ℕ). x ∷ left) (sym c.as_str.ensures.value) in
    (ks ++ filter p (k ∷ []), c.with_operator-found.ensures ks are, counted p ks k left (keys_in c.loop-key.key-iterator) (filter p (keys_in c.args.members.now.entries)) rest e)

pub returns : goal.returns
returns c =
    let p : List ℕ → Bool = is_operator_key in
    let (ks, are, e) = c.loop-key.invariant in
    subst (λ l. AreOthers c.loop-key.found l) (none_left p ks (keys_in c.loop-key.key-iterator) (filter p (keys_in c.args.members.now.entries)) (ap keys_in c.in-None.ensures.steps.0) e) are
