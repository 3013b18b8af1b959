use Rattle.std.proofs.Common.{◌≡◌, ◌<◌, ℕ, Option, IfSome, IfNone, false, length, sym, subst}
use Rattle.std.specs.Str.{bytes_eq}
use Rattle.claim_queue.specs.Places.{name_at}
use Rattle.claim_queue.proofs.NamedLemmas.{checked-place, checked-none, unkept-none}
use Rattle.claim_queue.proofs.names.place_of.Goals as goal

pub returns-in-Some-clause-place : goal.returns-in-Some-clause-place
returns-in-Some-clause-place c =
    let queues = c.args.queues.now in
    let name = c.args.name.now in
    let P : Option ℕ → Type 0 = λ o. IfSome o (λ place. (place < length queues) × (name_at place queues ≡ name)) in
    subst P (sym c.checked.ensures) (checked-place queues name c.in-Some.place)

pub returns-in-Some-clause-none : goal.returns-in-Some-clause-none
returns-in-Some-clause-none c =
    let queues = c.args.queues.now in
    let name = c.args.name.now in
    let P : Option ℕ → Type 0 = λ o. IfNone o ((place : ℕ) → place < length queues → bytes_eq (name_at place queues) name ≡ false) in
    subst P (sym c.checked.ensures) (checked-none queues c.args.names.now name c.in-Some.place c.requires (sym c.in-Some.ensures))

pub returns-in-None-clause-none : goal.returns-in-None-clause-none
returns-in-None-clause-none c = unkept-none c.args.queues.now c.args.names.now c.args.name.now c.requires (sym c.in-None.ensures)
