use Rattle.std.proofs.Common.{◌≡◌, ◌∷◌, ◌++◌, ℕ, List, Bool, not, ap, ◌∙◌, sym}
use Rattle.std.specs.List.{filter}
use Rattle.std.specs.Str.{bytes_eq}
use Rattle.jsone_render.specs.Answers.{texts_in}
use Rattle.jsone_render.specs.Conditions.{default_key}
use Rattle.jsone_render.proofs.KeyLemmas.{keys_in, counted}
use Rattle.jsone_render.proofs.conditions.conditions_of.Goals as goal

pub loop-key-preserved : goal.loop-key-preserved
loop-key-preserved c =
    let p : List ℕ → Bool = λ k. not (bytes_eq k default_key) in
    let k = c.as_str.result.now in
    let left = keys_in c.next.new.self in
    let rest : keys_in c.loop-key.key-iterator ≡ k ∷ left = ap keys_in c.in-Some.ensures.steps ∙ ap (λ (x : List ℕ). x ∷ left) (sym c.as_str.ensures.value) in
    ap (λ l. l ++ filter p left) c.in_ok-push_condition.ensures ∙ counted p (texts_in c.loop-key.keys.items) k left (keys_in c.loop-key.key-iterator) (filter p (keys_in c.args.members.now.entries)) rest c.loop-key.invariant
