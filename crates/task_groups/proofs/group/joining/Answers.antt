use Rattle.std.proofs.Common.{◌≡◌, ℕ, List, Option, Some, None, map, position, bytes_eq, sym, ◌∙◌, ap, subst, vec_capacity}
use Rattle.task_groups.specs.declared.group.Group.{Group}
use Rattle.task_groups.specs.Kept.{shown, HasRoomAt}
use Rattle.task_groups.specs.Placed.{ArePlaced}
use Rattle.task_groups.proofs.GroupLemmas.{position-same, no-place, served-at, served-none, refused-at}
use Rattle.task_groups.proofs.group.joining.Goals as goal

abbrev place_in : List ℕ → List Group → Option ℕ
place_in id groups = position (λ (group : Group). bytes_eq group.id id) groups

pub returns-in-Ok-clause-room : goal.returns-in-Ok-clause-room
returns-in-Ok-clause-room c =
    let old = c.args.groups.now.items in
    let new = c.joining_at.new.groups.items in
    let j = c.in-Ok.joining in
    let at : place_in c.args.id old ≡ Some c.in-Some.place = ap (place_in c.args.id) (sym c.deref.ensures.value) ∙ (sym c.place_of.ensures ∙ c.in-Some.is) in
    let named : j.id ≡ c.args.id = c.in-Ok.ensures.named.0 in
    let here : place_in j.id new ≡ Some c.in-Some.place = ap (λ id. place_in id new) named ∙ (position-same new old c.args.id c.joining_at.ensures.same ∙ at) in
    let P : Option ℕ → Type 0 = λ o. HasRoomAt new (vec_capacity c.joining_at.new.groups) c.args.places.now j o in
    subst P (sym here) c.in-Ok.ensures.room

pub returns-in-Ok-clause-served : goal.returns-in-Ok-clause-served
returns-in-Ok-clause-served c =
    let old = c.args.groups.now.items in
    let at : place_in c.args.id old ≡ Some c.in-Some.place = ap (place_in c.args.id) (sym c.deref.ensures.value) ∙ (sym c.place_of.ensures ∙ c.in-Some.is) in
    served-at old c.args.id c.args.scheduler.now c.in-Some.place at c.in-Ok.ensures.served

pub returns-in-Err-clause-refused : goal.returns-in-Err-clause-refused
returns-in-Err-clause-refused c =
    let old = c.args.groups.now.items in
    let at : place_in c.args.id old ≡ Some c.in-Some.place = ap (place_in c.args.id) (sym c.deref.ensures.value) ∙ (sym c.place_of.ensures ∙ c.in-Some.is) in
    refused-at old c.args.id c.args.scheduler.now c.in-Some.place c.in-Err.fault at c.in-Err.ensures.refused

pub returns-in-Ok-joining_first-clause-served : goal.returns-in-Ok-joining_first-clause-served
returns-in-Ok-joining_first-clause-served c =
    let old = c.args.groups.now.items in
    let at : place_in c.args.id old ≡ None = ap (place_in c.args.id) (sym c.deref.ensures.value) ∙ (sym c.place_of.ensures ∙ c.in-None.is) in
    served-none old c.args.id c.args.scheduler.now at

pub returns-in_default-clause-placed : goal.returns-in_default-clause-placed
returns-in_default-clause-placed c =
    let old = c.args.groups.now.items in
    let at : place_in c.args.id old ≡ None = ap (place_in c.args.id) (sym c.deref.ensures.value) ∙ (sym c.place_of.ensures ∙ c.in-None.is) in
    c.note_new.ensures.others (map shown old) (no-place old c.args.id at).any c.requires

pub returns-in-Ok-joining_first-clause-placed : goal.returns-in-Ok-joining_first-clause-placed
returns-in-Ok-joining_first-clause-placed c =
    let old = c.args.groups.now.items in
    let at : place_in c.args.id old ≡ None = ap (place_in c.args.id) (sym c.deref.ensures.value) ∙ (sym c.place_of.ensures ∙ c.in-None.is) in
    let placed : ArePlaced c.note_new.new.places (map shown old) = c.note_new.ensures.others (map shown old) (no-place old c.args.id at).any c.requires in
    subst (ArePlaced c.note_new.new.places) (sym (ap (λ (gs : List Group). map shown gs) c.joining_first.ensures.same)) placed

pub returns-in-Err-joining_first-clause-placed : goal.returns-in-Err-joining_first-clause-placed
returns-in-Err-joining_first-clause-placed c =
    let old = c.args.groups.now.items in
    let at : place_in c.args.id old ≡ None = ap (place_in c.args.id) (sym c.deref.ensures.value) ∙ (sym c.place_of.ensures ∙ c.in-None.is) in
    let placed : ArePlaced c.note_new.new.places (map shown old) = c.note_new.ensures.others (map shown old) (no-place old c.args.id at).any c.requires in
    subst (ArePlaced c.note_new.new.places) (sym (ap (λ (gs : List Group). map shown gs) c.joining_first.ensures.same)) placed
