use Rattle.std.proofs.Common.{◌≡◌, List, ◌∷◌, [], ◌++◌, map, length, ap, ◌∙◌, arith}
use Rattle.std.proofs.lemmas.List.{length-map, map-append}
use Rattle.hook_book.specs.Hooks.{HookData, hook_data, hooks_data, is_named}
use Rattle.hook_book.specs.Places.{place_in, first_place}
use Rattle.hook_book.specs.declared.hook.Hook.{Hook}
use Rattle.hook_book.proofs.PlaceLemmas.{IsPlaceOf-pushed}
use Rattle.hook_book.proofs.book.HookBook.push.Goals as goal

pub invariant_of-self-2 : goal.invariant_of-self-2
invariant_of-self-2 c = λ group id.
    let hooks : List HookData = hooks_data c.self.inside.hooks.items in
    let kept = place_in c.self.inside.places group id in
    let same : hooks_data c.push_reserved.new.self.items ≡ hooks ++ hook_data c.args.hook ∷ [] =
    ap (map hook_data) (c.push_reserved.ensures.items ∙ ap (λ (xs : List Hook). xs ++ c.args.hook ∷ []) c.in_ok-reserve.ensures.items) ∙ map-append hook_data c.self.inside.hooks.items (c.args.hook ∷ []) in
    let place : c.len-place.result ≡ length hooks =
    omega (arith, c.len-place.ensures, c.in_ok-reserve.ensures.len, c.self.inside.hooks.ok.0, length-map c.self.inside.hooks.items hook_data) in
    let now : place_in c.note_first.new.places group id ≡ first_place kept (is_named group id (hook_data c.args.hook)) (length hooks) =
    c.in_ok-note_first.ensures.kept group id ∙ ap (first_place kept (is_named group id (hook_data c.args.hook))) place in
    rw (same, now) (IsPlaceOf-pushed hooks (hook_data c.args.hook) group id kept (c.self.invariant group id))
