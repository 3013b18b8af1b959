-- Values of the wrong kind, and lists that are gathered.
use Rattle.std.proofs.Common.{◌≡◌, ℕ, List, [], ◌∷◌, ◌++◌, Option, Some, None, Ok, Err, pos, ◌+◌, length, length-append, map, reverse, refl, sym, ap, ◌∙◌, append_assoc, append-nil}
use Rattle.farm_text.specs.Document.{Document, null, boolean, whole, whole as integer, text, array, object, items_of, Members}
use Rattle.jsone_values.specs.declared.faults.Fault.TheVariants.{WrongKind}
use Rattle.jsone_values.specs.Members.{listed}
use Rattle.jsone_render.specs.Answers.{IsNoMap, IsNoText}
use Rattle.jsone_render.specs.Expressions.{OfText}
use Rattle.jsone_render.specs.Merges.{merged, merged_onto, merge_of, reverse_of, flattened}
use Rattle.jsone_render.specs.Bindings.{numbered}
use Rattle.farm_text.specs.declared.doc.Doc.{Doc}
use Rattle.std.proofs.lemmas.List.{map-append, reverse-append}
use Rattle.jsone_render.specs.Outcomes.{Outcome, faulted}

pub no_map : (ms : Members) (d : Document) (ds : List Document) → IsNoMap d → Err WrongKind ≡ merged_onto ms (d ∷ ds)
no_map ms (object more) ds h = absurd h
no_map ms null ds h = refl
no_map ms (boolean b) ds h = refl
no_map ms (whole z) ds h = refl
no_map ms (text bs) ds h = refl
no_map ms (array es) ds h = refl

pub no_text : {A : Type 0} (x : Option Document) (Is : List ℕ → Outcome A → Type 0) → IsNoText x → OfText x Is (faulted WrongKind [])
no_text (Some (text bs)) Is h = absurd h
no_text (Some null) Is h = refl
no_text (Some (boolean b)) Is h = refl
no_text (Some (whole z)) Is h = refl
no_text (Some (array ds)) Is h = refl
no_text (Some (object ms)) Is h = refl
no_text None Is h = refl

pub listed-items_of : (ds : List Document) → listed (items_of ds) ≡ ds
listed-items_of [] = refl
listed-items_of (d ∷ ds) = ap (λ l. d ∷ l) (listed-items_of ds)

pub flattened-append : (ds es : List Document) → flattened (ds ++ es) ≡ flattened ds ++ flattened es
flattened-append [] es = refl
flattened-append (array fs ∷ ds) es = ap (λ l. listed fs ++ l) (flattened-append ds es) ∙ sym (append_assoc (listed fs) (flattened ds) (flattened es))
flattened-append (null ∷ ds) es = ap (λ l. null ∷ l) (flattened-append ds es)
flattened-append (boolean b ∷ ds) es = ap (λ l. boolean b ∷ l) (flattened-append ds es)
flattened-append (whole z ∷ ds) es = ap (λ l. whole z ∷ l) (flattened-append ds es)
flattened-append (text bs ∷ ds) es = ap (λ l. text bs ∷ l) (flattened-append ds es)
flattened-append (object ms ∷ ds) es = ap (λ l. object ms ∷ l) (flattened-append ds es)

pub flat_list : (d : Document) (ds : List Document) → d ≡ array (items_of ds) → flattened (d ∷ []) ≡ ds
flat_list d ds e = ap (λ x. flattened (x ∷ [])) e ∙ append-nil (listed (items_of ds)) ∙ listed-items_of ds

pub map-reverse : (f : Doc → Document) (xs : List Doc) → map f (reverse xs) ≡ reverse (map f xs)
map-reverse f [] = refl
map-reverse f (x ∷ xs) =
    ap (map f) (reverse-append (x ∷ []) xs) ∙ map-append f (reverse xs) (x ∷ []) ∙ ap (λ l. l ++ f x ∷ []) (map-reverse f xs) ∙ sym (reverse-append (f x ∷ []) (map f xs))

pub reverse_list : (d : Document) (ds : List Document) → d ≡ array (items_of ds) → Ok (array (items_of (reverse ds))) ≡ reverse_of d
reverse_list d ds e = ap (λ l. Ok (array (items_of (reverse l)))) (sym (listed-items_of ds)) ∙ ap reverse_of (sym e)

pub merge_list : (d : Document) (ds : List Document) → d ≡ array (items_of ds) → merged ds ≡ merge_of d
merge_list d ds e = ap merged (sym (listed-items_of ds)) ∙ ap merge_of (sym e)

-- members that are numbered, and those that are left
pub numbered_more : (done whole next : List (Document × Document)) (d i : Document) (left rest : List Document) → rest ≡ d ∷ left → i ≡ integer (pos (length done)) → next ≡ done ++ (d, i) ∷ [] → done ++ numbered (length done) rest ≡ whole → next ++ numbered (length next) left ≡ whole
numbered_more done all next d i left rest e is made h =
    let size : length next ≡ length done + 1 = ap length made ∙ length-append done ((d, i) ∷ []) in
    ap (λ k. next ++ numbered k left) size ∙ ap (λ x. x ++ numbered (length done + 1) left) (made ∙ ap (λ x. done ++ (d, x) ∷ []) is)
    ∙ append_assoc done ((d, integer (pos (length done))) ∷ []) (numbered (length done + 1) left) ∙ ap (λ x. done ++ numbered (length done) x) (sym e) ∙ h

-- what is gathered, one part more of it, and what is left
pub one_more : {A : Type 0} (done next one left rest all : List A) → rest ≡ one ++ left → next ≡ done ++ one → done ++ rest ≡ all → next ++ left ≡ all
one_more done next one left rest all is made h = ap (λ l. l ++ left) made ∙ append_assoc done one left ∙ ap (λ l. done ++ l) (sym is) ∙ h
