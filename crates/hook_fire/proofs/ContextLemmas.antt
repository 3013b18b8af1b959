-- The names of a firing, put one after the other, are its context.
use Rattle.std.proofs.Common.{◌≡◌, ℕ, List, codes, refl, ap, ◌∙◌}
use Rattle.farm_text.specs.Document.{Document, Members, no_members, object, put, text}
use Rattle.farm_text.specs.Slug.{slug_text}
use Rattle.hook_fire.specs.Contexts.{context_of}

-- the members, put one after the other
abbrev put_names : List ℕ → Document → List ℕ → Members
put_names now sent id =
    put (codes "taskId") (text id) (put (codes "payload") sent (put (codes "now") (text now) (put (codes "firedBy") (text (codes "triggerHook")) no_members)))

joined : (now id : List ℕ) (sent : Document) → object (put_names now sent (slug_text id)) ≡ context_of now sent id
joined now id sent = refl

pub is_context_of : (now id drawn : List ℕ) (hook sent payload made : Document) (ms : Members) → made ≡ object ms
    → ms ≡ put (codes "taskId") (text id) (put (codes "payload") sent (put (codes "now") (text now) (put (codes "firedBy") hook no_members)))
    → hook ≡ text (codes "triggerHook") → sent ≡ payload → id ≡ slug_text drawn → made ≡ context_of now payload drawn
is_context_of now id drawn hook sent payload made ms is are fired same named =
    let first = ap (λ (d : Document). put (codes "taskId") (text id) (put (codes "payload") sent (put (codes "now") (text now) (put (codes "firedBy") d no_members)))) fired in
    let second = ap (λ (d : Document). put_names now d id) same in
    let third = ap (λ (t : List ℕ). put_names now payload t) named in
    is ∙ ap object (are ∙ first ∙ second ∙ third) ∙ joined now drawn payload
