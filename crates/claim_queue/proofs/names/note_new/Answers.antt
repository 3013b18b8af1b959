use Rattle.std.proofs.Common.{◌≡◌, ℕ, ◌<◌, List, Some, OnOk, false, length, sym, rules, subst}
use Rattle.std.specs.Str.{bytes_eq}
use Rattle.std.specs.BTreeMap.{get_by_text}
use Rattle.claim_queue.specs.Places.{name_at}
use Rattle.claim_queue.proofs.NamedLemmas.{noted-keeps, noted-place}
use Rattle.claim_queue.proofs.names.note_new.Goals as goal

pub returns-clause-places : goal.returns-clause-places
returns-clause-places c =
    let queues = c.args.queues.now in
    let name : c.in_ok-name.name ≡ c.args.name.now = search rules in
    let P : List ℕ → Type 0 = λ n. (place : ℕ) → place < length queues → bytes_eq (name_at place queues) n ≡ false in
    let none : P c.in_ok-name.name = subst P (sym name) c.requires.none in
    noted-keeps c.args.names.now c.note.new.names c.in_ok-name.name _ c.note.result c.note.ensures.kept c.note.ensures.unchanged queues none c.requires.places

pub returns-clause-noted : goal.returns-clause-noted
returns-clause-noted c =
    let name : c.in_ok-name.name ≡ c.args.name.now = search rules in
    let P : List ℕ → Type 0 = λ n. OnOk c.note.result (get_by_text c.note.new.names n ≡ Some (length c.args.queues.now)) in
    subst P name (noted-place c.args.names.now c.note.new.names c.in_ok-name.name _ c.note.result c.note.ensures.kept)
