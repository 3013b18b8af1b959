use Rattle.std.proofs.Common.{◌≡◌, ◌<◌, List, Some, refl, ap, sym, ◌∙◌, subst, arith, option_map, length, slice_get}
use Rattle.std.proofs.lemmas.List.{length-map}
use Rattle.std.proofs.lemmas.Option.{slice_get-map, slice_get_read}
use Rattle.hook_book.specs.Hooks.{HookData, hook_data, hooks_data, hook_named}
use Rattle.hook_book.specs.Places.{IsPlaceOf}
use Rattle.hook_book.proofs.PlaceLemmas.{read_place, place_within}
use Rattle.hook_book.proofs.book.HookBook.find.Goals as goal

pub returns : goal.returns
returns c =
    let items = c.self.inside.hooks.items in
    let hooks : List HookData = hooks_data items in
    let group = c.args.group.now in
    let id = c.args.id.now in
    let place = c.in-Some.place in
    let hook = c.index.result.now in
    let found : IsPlaceOf hooks group id (Some place) = subst (IsPlaceOf hooks group id) (sym c.in-Some.ensures) (c.self.invariant group id) in
    let within : place < length items = omega (arith, place_within hooks group id place found, length-map items hook_data) in
    let at : slice_get hooks place ≡ Some (hook_data hook) = slice_get-map hook_data items place ∙ ap (option_map hook_data) (slice_get_read items (length items) place hook refl within c.index.ensures) in
    sym at ∙ read_place hooks group id place found ∙ ap (hook_named group id) c.self.view_is
