use Rattle.std.proofs.Common.{◌≡◌, ℕ, ℤ, ◌+◌, ◌<◌, length, Bool, true, false, if◌then◌else◌, List, ◌∷◌, get_or, drop, Err, refl, sym, ap, ◌∙◌, rules}
use Rattle.std.specs.Int.{int_max, int_min}
use Rattle.std.proofs.lemmas.Bool.{false≢true}
use Rattle.std.proofs.lemmas.List.{at_drop_more}
use Rattle.farm_text.specs.Document.{Document, whole}
use Rattle.farm_text.specs.Doc.{document, documents}
use Rattle.farm_text.specs.declared.doc.Doc as Doc
use Rattle.farm_text.specs.declared.doc.Doc.{Doc, the_lemmas}
use Rattle.jsone_values.specs.declared.faults.Fault.TheVariants.{WrongKind}
use Rattle.jsone_values.specs.Lists.{picked_from, picked}
use Rattle.jsone_values.proofs.lists.picked_of.Goals as goal

abbrev is_whole : Document → Bool
is_whole (whole z) = true
is_whole _ = false

no_whole : (d : Doc) → ((z : ℤ) → d ≡ Doc.Int z → ⊥) → is_whole (document d) ≡ false
no_whole (Doc.Int z) other = absurd (other z refl)
no_whole Doc.Null other = search (rules, the_lemmas)
no_whole (Doc.Bool b) other = search (rules, the_lemmas)
no_whole (Doc.Text t) other = search (rules, the_lemmas)
no_whole (Doc.List' s r) other = search (rules, the_lemmas)
no_whole (Doc.Map' s r) other = search (rules, the_lemmas)

wrong_first : (pick : ℤ → ℤ → ℤ) (d : Document) (ds : List Document) → is_whole d ≡ false → Err WrongKind ≡ picked pick (d ∷ ds)
wrong_first pick (whole z) ds e = absurd (false≢true (sym e))
wrong_first pick _ ds e = refl

wrong_next : (pick : ℤ → ℤ → ℤ) (a : ℤ) (d : Document) (ds : List Document) → is_whole d ≡ false → Err WrongKind ≡ picked_from pick a (d ∷ ds)
wrong_next pick a (whole z) ds e = absurd (false≢true (sym e))
wrong_next pick a _ ds e = refl

-- an item that is no number, in the list that it stands in
wrong_item : (pick : ℤ → ℤ → ℤ) (a : ℤ) (rest : List Doc) (i : ℕ) (d : Doc) → ((z : ℤ) → d ≡ Doc.Int z → ⊥) → d ≡ get_or rest i d → i < length rest → Err WrongKind ≡ picked_from pick a (documents (drop i rest))
wrong_item pick a rest i d other is within =
    let f = λ (ds : List Doc). picked_from pick a (documents ds) in
    wrong_next pick a (document d) (documents (drop (i + 1) rest)) (no_whole d other) ∙ ap (λ x. f (x ∷ drop (i + 1) rest)) is ∙ sym (at_drop_more f rest i d within)

pub returns-in_default-first : goal.returns-in_default-first
returns-in_default-first c =
    let pick = if c.args.greatest then int_max else int_min in
    wrong_first pick (document c.in-Some.first.now) (documents c.in-Some.rest.now) (no_whole c.in-Some.first.now c.in_default-first.not-Int) ∙ ap (λ ds. picked pick (documents ds)) (sym c.in-Some.ensures.cases.0)

pub returns-in_default-value : goal.returns-in_default-value
returns-in_default-value c =
    let pick = if c.args.greatest then int_max else int_min in
    wrong_item pick c.loop-value.number c.in-Some.rest.now c.loop-value.value-index c.value-item.result c.in_default-value.not-Int c.value-item.is c.loop-value-test.true
    ∙ ap (λ a. picked_from pick a (documents (drop c.loop-value.value-index c.in-Some.rest.now))) (sym c.loop-value.number-is) ∙ c.loop-value.invariant
