use Rattle.std.proofs.Common.{◌≡◌, ◌++◌, ◌∷◌, [], List, ℕ, Some, None, refl, sym, ◌∙◌, subst, arith, Contains}
use Rattle.std.proofs.lemmas.List.{append_cancel_right}
use Rattle.std.proofs.lemmas.List.Elements.{Contains-push}
use Rattle.std.proofs.lemmas.Str.Pattern.{strip_suffix_char}
use Rattle.scope_sets.specs.Scopes.{star}
use Rattle.role_expand.specs.declared.index.RoleKey.{RoleKey}
use Rattle.role_expand.proofs.marks.add_marks.Goals as goal

pub returns-in-None-clause-front : goal.returns-in-None-clause-front
returns-in-None-clause-front c = λ front is. absurd (strip_suffix_char star c.as_str.result.now None c.in-None.ensures.cases (omega arith) front (c.as_str.ensures.value ∙ is))

pub returns-in-None-clause-texts : goal.returns-in-None-clause-texts
returns-in-None-clause-texts c = λ scope front starred there r. absurd (strip_suffix_char star c.as_str.result.now None c.in-None.ensures.cases (omega arith) starred.0 (c.as_str.ensures.value ∙ starred.1))

pub returns-in_ok-add_texts-in-Some-clause-front : goal.returns-in_ok-add_texts-in-Some-clause-front
returns-in_ok-add_texts-in-Some-clause-front c = λ front is.
    let mark : RoleKey = record { text = c.in_ok-text-in-Some.text; place = c.args.place } in
    let own : c.as_str.result.now ≡ c.in-Some.front.now ++ star ∷ [] = strip_suffix_char star c.as_str.result.now (Some c.in-Some.front) c.in-Some.ensures.cases (omega arith) in
    let same : c.in-Some.front.now ≡ front = append_cancel_right c.in-Some.front.now front (star ∷ []) (sym own ∙ c.as_str.ensures.value ∙ is) in
    let pushed : Contains c.push.new.self.items mark = subst (λ (t : List RoleKey). Contains t mark) (sym c.in_ok-push-in-Some.ensures.items) (Contains-push c.args.marks.now.items mark) in
    (mark, c.in_ok-add_texts-in-Some.ensures.kept mark pushed, refl, c.in_ok-text-in-Some.ensures.ok ∙ same)

pub returns-in_ok-add_texts-in-Some-clause-texts : goal.returns-in_ok-add_texts-in-Some-clause-texts
returns-in_ok-add_texts-in-Some-clause-texts c = λ scope front starred there r.
    c.in_ok-add_texts-in-Some.ensures.added scope front (subst (λ (t : List (List ℕ)). Contains t scope) (sym c.deref.ensures.value) there) r
