-- A code for documents, by which proofs tell them apart: a list of pieces that gives them back. No contract speaks of it.
use Rattle.std.specs.Prelude.{◌≡◌, List, [], ◌∷◌, refl}
use Rattle.std.specs.Coded.{Coded, code_by, coded⊎, coded_ℕ, coded_ℤ, coded_bool, coded_list}
use Rattle.farm_text.specs.Document.{Document, null}
use Rattle.task_types.specs.Codes.{Piece, Part, a_document, document_before, parts_of, document-back}

-- the document that stands first
abbrev pub first_document : List Part → Document
first_document (a_document d ∷ ps) = d
first_document _ = null

pub document_back : (d : Document) → first_document (parts_of (document_before d [])) ≡ d
document_back d = rw (document-back d []) refl

abbrev pub document_code : Coded Document
document_code =
    code_by (List Piece) (coded_list (coded⊎ (coded⊎ coded_ℕ coded_bool) (coded⊎ coded_ℤ (coded⊎ (coded_list coded_ℕ) (coded_list coded_ℕ)))))
    (λ d. document_before d []) (λ ps. first_document (parts_of ps)) document_back
