-- What a name is bound to, a map after the other.
use Rattle.std.proofs.Common.{◌≡◌, ℕ, suc, ◌+◌, ◌<◌, ◌≤◌, List, ◌∷◌, length, drop, get_or, Option, Some, None, refl, sym, ap, ◌∙◌, add-one, drop-cons}
use Rattle.std.proofs.lemmas.List.{drop_all}
use Rattle.farm_text.specs.Document.{Document, get}
use Rattle.farm_text.specs.Doc.{document, documents}
use Rattle.farm_text.specs.declared.doc.Doc.{Doc}
use Rattle.jsone_eval.specs.Scopes.{instead, bound_by, bound}

instead_of_nothing : (o : Option Document) → instead o None ≡ o
instead_of_nothing None = refl
instead_of_nothing (Some d) = refl

pub outermost : (found : Option Document) (name : List ℕ) (d : Document) (ds : List Document) → found ≡ get name d → bound_by found name ds ≡ bound name (d ∷ ds)
outermost found name d ds e = ap (λ o. bound_by o name ds) (e ∙ sym (instead_of_nothing (get name d)))

pub one_binding : (found more next all : Option Document) (name : List ℕ) (items : List Doc) (i : ℕ) (x : Doc) → i < length items → x ≡ get_or items i x → more ≡ get name (document x) → next ≡ instead more found → bound_by found name (documents (drop i items)) ≡ all
    → bound_by next name (documents (drop (i + 1) items)) ≡ all
one_binding found more next all name items i x less is e f h =
    let split : drop i items ≡ x ∷ drop (i + 1) items = drop-cons items i x less ∙ ap (λ y. y ∷ drop (suc i) items) (sym is) ∙ ap (λ j. x ∷ drop j items) (sym (add-one i)) in
    ap (λ o. bound_by o name (documents (drop (i + 1) items))) (f ∙ ap (λ o. instead o found) e) ∙ ap (λ (l : List Doc). bound_by found name (documents l)) (sym split) ∙ h

pub no_binding_left : (found all : Option Document) (name : List ℕ) (items : List Doc) (i : ℕ) → length items ≤ i → bound_by found name (documents (drop i items)) ≡ all → found ≡ all
no_binding_left found all name items i past h = ap (λ (l : List Doc). bound_by found name (documents l)) (sym (drop_all i items past)) ∙ h
