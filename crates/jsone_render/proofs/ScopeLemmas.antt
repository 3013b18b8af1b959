-- Bindings that are taken away again.
use Rattle.std.proofs.Common.{◌≡◌, ℕ, ◌+◌, List, [], ◌∷◌, ◌++◌, length, take, get_or, refl, sym, ap, ap₂, ◌∙◌, arith, length-append}
use Rattle.std.proofs.lemmas.List.{append_cancel_left, map-append, take-map, take-append-le, take_all}
use Rattle.farm_text.specs.Document.{Document, null}
use Rattle.farm_text.specs.Doc.{document, documents}
use Rattle.farm_text.specs.declared.doc.Doc.{Doc}

front_of : (xs ys : List Document) → take (length xs) (xs ++ ys) ≡ xs
front_of xs ys = take-append-le (length xs) xs ys (omega arith) ∙ take_all (length xs) xs (omega arith)

pub released : (o : Document) (items new : List Doc) (before more : List Document) (h : ℕ) → o ∷ documents items ≡ before ++ more → length before ≡ h + 1 → new ≡ take h items → o ∷ documents new ≡ before
released o items new [] more h e size is = absurd (omega arith)
released o items new (b ∷ before) more h e size is =
    let first : o ≡ b = ap (λ (l : List Document). get_or l 0 null) e in
    let rest : documents items ≡ before ++ more = append_cancel_left (o ∷ []) (documents items) (before ++ more) (e ∙ ap (λ x. x ∷ (before ++ more)) (sym first)) in
    let count : length before ≡ h = omega arith in
    let same : documents new ≡ before =
    ap documents is ∙ sym (take-map document h items) ∙ ap (take h) rest ∙ ap (λ k. take k (before ++ more)) (sym count) ∙ front_of before more in
    ap₂ (λ (x : Document) (l : List Document). x ∷ l) first same

last_same : (xs ys : List Document) (x y : Document) → xs ++ x ∷ [] ≡ ys ++ y ∷ [] → (xs ≡ ys) × (x ≡ y)
last_same [] [] x y e = (refl, ap (λ (l : List Document). get_or l 0 null) e)
last_same [] (b ∷ ys) x y e = let size = ap length e in absurd (omega (arith, length-append ys (y ∷ [])))
last_same (a ∷ xs) [] x y e = let size = ap length e in absurd (omega (arith, length-append xs (x ∷ [])))
last_same (a ∷ xs) (b ∷ ys) x y e =
    let first : a ≡ b = ap (λ (l : List Document). get_or l 0 null) e in
    let (rest, same) = last_same xs ys x y (append_cancel_left (a ∷ []) (xs ++ x ∷ []) (ys ++ y ∷ []) (e ∙ ap (λ z. z ∷ (ys ++ y ∷ [])) (sym first))) in
    (ap₂ (λ (z : Document) (l : List Document). z ∷ l) first rest, same)

pub popped : (o : Document) (items new : List Doc) (x : Doc) (before : List Document) (d : Document) → items ≡ new ++ x ∷ [] → o ∷ documents items ≡ before ++ d ∷ [] → (o ∷ documents new ≡ before) × (document x ≡ d)
popped o items new x before d is e =
    last_same (o ∷ documents new) before (document x) d (ap (λ l. o ∷ l) (sym (map-append document new (x ∷ [])) ∙ ap documents (sym is)) ∙ e)
