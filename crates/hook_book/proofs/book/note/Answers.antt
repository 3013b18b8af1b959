use Rattle.std.proofs.Common.{◌≡◌, ℕ, bytes_eq, if◌then◌else◌, Option, Some, None, sym, ap, ◌∙◌, string_bytes, rules}
use Rattle.std.specs.Option.{option_copied_mut}
use Rattle.std.proofs.lemmas.Map.Text.{btree_map_updates_text}
use Rattle.hook_book.proofs.PlaceLemmas.{noted_so, left_so, noted, no_id}
use Rattle.hook_book.proofs.book.note.Goals as goal

pub returns-in-Some-clause-kept : goal.returns-in-Some-clause-kept
returns-in-Some-clause-kept c =
    let w = c.note_id.new.ids in
    noted_so c.args.places.now (c.get_mut.follows.lender w) c.args.group.now (Some c.in-Some.ids.now) w
    (sym c.get_mut.ensures.value ∙ ap option_copied_mut c.in-Some.is)
    (btree_map_updates_text c.args.group.now c.args.places.now (c.get_mut.follows.lender w) (Some w) ((c.get_mut.follows.holds w).3 (search rules)))
    c.args.id.now c.args.place c.note_id.result c.note_id.ensures.kept

pub returns-in-Some-clause-unchanged : goal.returns-in-Some-clause-unchanged
returns-in-Some-clause-unchanged c =
    let w = c.note_id.new.ids in
    left_so c.args.places.now (c.get_mut.follows.lender w) c.args.group.now (Some c.in-Some.ids.now) w
    (sym c.get_mut.ensures.value ∙ ap option_copied_mut c.in-Some.is)
    (btree_map_updates_text c.args.group.now c.args.places.now (c.get_mut.follows.lender w) (Some w) ((c.get_mut.follows.holds w).3 (search rules)))
    c.note_id.result c.note_id.ensures.unchanged

pub returns-clause-kept : goal.returns-clause-kept
returns-clause-kept c =
    let name : string_bytes c.in_ok-name.name ≡ c.args.group.now = c.in_ok-name.ensures.ok in
    noted c.args.places.now c.insert.new.self c.args.group.now None c.note_id-2.new.ids
    (sym c.get_mut.ensures.value ∙ ap option_copied_mut c.in_default.is)
    (rw (name, c.get_mut.follows.holds-at-none) at
    (btree_map_updates_text (string_bytes c.in_ok-name.name) c.get_mut.follows.lender-at-none c.insert.new.self (Some c.note_id-2.new.ids) c.in-Ok.ensures.updates))
    c.args.id.now c.args.place
    (λ i. c.in_ok-note_id.ensures.kept i ∙ ap (λ (o : Option ℕ). if bytes_eq c.args.id.now i then Some c.args.place else o) (no_id c.new-ids.result c.new-ids.ensures.empty i))
