use Rattle.std.proofs.Common.{◌≡◌, ◌⊎◌, List, ℕ, refl, sym, subst}
use Rattle.std.proofs.lemmas.List.Elements.{Contains-push}
use Rattle.role_expand.specs.Index.{text_of, Begins}
use Rattle.role_expand.specs.declared.index.RoleKey.{RoleKey}
use Rattle.role_expand.proofs.marks.add_text.Goals as goal

pub returns-in-None-clause-added : goal.returns-in-None-clause-added
returns-in-None-clause-added c = λ front r. absurd (c.in-None.ensures front r)

pub returns-in_ok-push-in-Some-clause-added : goal.returns-in_ok-push-in-Some-clause-added
returns-in_ok-push-in-Some-clause-added c = λ front r.
    let mark : RoleKey = record { text = c.in_ok-text-in-Some.text; place = c.args.place } in
    let text : text_of mark ≡ c.in-Some.text.now = c.in_ok-text-in-Some.ensures.ok in
    rw c.in_ok-push-in-Some.ensures.items
    (mark, Contains-push c.args.marks.now.items mark, (refl, subst (λ (t : List ℕ). Begins t front ⊎ Begins front t) (sym text) (c.in-Some.ensures front r)))
