-- Lists of scopes in a document.
use Rattle.std.proofs.Common.{◌≡◌, ◌≢◌, ℕ, ◌+◌, ◌<◌, List, [], ◌∷◌, ◌++◌, length, take, get_or, refl, sym, ap, ◌∙◌, subst, arith}
use Rattle.std.specs.Prelude.{map, All, Option, IfOk, Result, Ok, Err}
use Rattle.std.proofs.lemmas.List.{length-map, get_or-map, take_more, map_push}
use Rattle.std.proofs.lemmas.List.Elements.{All-push}
use Rattle.farm_text.specs.Document.{Document, text, array, Items, no_items, item, items_of}
use Rattle.farm_text.specs.Doc.{document, documents}
use Rattle.farm_text.specs.declared.doc.Doc.{Doc}
use Rattle.base64.specs.GeneralPurpose.{encode_of, IsBytes}
use Rattle.base64.specs.Engines.{standard}
use Rattle.hawk_auth.specs.Ext.{Allows, AreScopes, IsDocument, IsExt, IsScope}
use Rattle.hawk_auth.specs.Read.{IsAllowedBy}
use Rattle.hawk_auth.specs.declared.ext.Allowed.{Allowed}
use Rattle.hawk_auth.specs.declared.ext.Allowed.TheVariants.{Everything, Only, Off}

abbrev list_of : Items → List Document
list_of no_items = []
list_of (item d ds) = d ∷ list_of ds

abbrev items_in : Document → List Document
items_in (array ds) = list_of ds
items_in _ = []

list_back : (ds : List Document) → list_of (items_of ds) ≡ ds
list_back [] = refl
list_back (d ∷ ds) = ap (λ (x : List Document). d ∷ x) (list_back ds)

pub same_lists : (ds es : List Document) → array (items_of ds) ≡ array (items_of es) → ds ≡ es
same_lists ds es e = sym (list_back ds) ∙ ap items_in e ∙ list_back es

module _ (items : List Doc) (i : ℕ) (d : Doc) (lt : i < length items) (is : d ≡ get_or items i d) where
  pub not_scopes_at : ((t : List ℕ) → IsScope t → document d ≢ text t) → (scopes : List (List ℕ)) → ¬ AreScopes (array (items_of (documents items))) scopes
  not_scopes_at none scopes h =
      let same : documents items ≡ map text scopes = same_lists (documents items) (map text scopes) h.is in
      let within : i < length scopes = omega (arith, lt, length-map items document, length-map scopes text, ap (λ (xs : List Document). length xs) same) in
      none (get_or scopes i []) (h.formed i [] within)
      (ap document is ∙ sym (get_or-map document items i d (document d) lt) ∙ ap (λ (xs : List Document). get_or xs i (document d)) same ∙ get_or-map text scopes i [] (document d) within)

  pub one_more : (before after : List (List ℕ)) (s : List ℕ) → after ≡ before ++ s ∷ [] → document d ≡ text s → documents (take i items) ≡ map text before
      → documents (take (i + 1) items) ≡ map text after
  one_more before after s pushed here so_far =
      ap documents (take_more items i d lt) ∙ map_push document (take i items) (get_or items i d)
      ∙ ap (λ (xs : List Document). xs ++ document (get_or items i d) ∷ []) so_far
      ∙ ap (λ (x : Document). map text before ++ x ∷ []) (sym (ap document is) ∙ here)
      ∙ sym (ap (λ (xs : List (List ℕ)). map text xs) pushed ∙ map_push text before s)

pub formed_more : (before after : List (List ℕ)) (s : List ℕ) → after ≡ before ++ s ∷ [] → IsScope s → All IsScope before → All IsScope after
formed_more before after s pushed here so_far = subst (All IsScope) (sym pushed) (All-push IsScope before s so_far here)

-- what a document allows, the ext that is its base64 allows
pub ext_allows : (ext content : List ℕ) (d : Document) (a : Allowed) → IsBytes content → ext ≡ encode_of standard content
    → ((bytes : List ℕ) → IsBytes bytes → ext ≡ encode_of standard bytes → bytes ≡ content)
    → IsDocument content d → ((e : Document) → IsDocument content e → e ≡ d) → IsAllowedBy (Allows d) a → IsAllowedBy (IsExt ext) a
ext_allows ext content d Everything bytes encoded once is one h = record { content = content; bytes = bytes; encoded = encoded; d = d; document = is; allows = h }
ext_allows ext content d (Only v) bytes encoded once is one h = record { content = content; bytes = bytes; encoded = encoded; d = d; document = is; allows = h }
ext_allows ext content d Off bytes encoded once is one h = λ allowed x.
    let here = subst (λ (c : List ℕ). IsDocument c x.d) (once x.content x.bytes x.encoded) x.document in
    h allowed (subst (λ (e : Document). Allows e allowed) (one x.d here) x.allows)

-- the ext that is base64 of no document allows nothing
pub ext_of_none : (ext content : List ℕ) → ((bytes : List ℕ) → IsBytes bytes → ext ≡ encode_of standard bytes → bytes ≡ content)
    → ((d : Document) → ¬ IsDocument content d) → (allowed : Option (List (List ℕ))) → ¬ IsExt ext allowed
ext_of_none ext content once none allowed x = none x.d (subst (λ (c : List ℕ). IsDocument c x.d) (once x.content x.bytes x.encoded) x.document)

pub on_ok : {X E : Type 0} {P Q : X → Type 0} (r : Result X E) → ((x : X) → P x → Q x) → IfOk r P → IfOk r Q
on_ok (Ok x) f h = f x h
on_ok (Err e) f h = h
