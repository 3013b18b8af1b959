-- A code for the members of maps, by which proofs tell them apart: a list of pieces that gives them back. No contract speaks of it.
use Rattle.std.specs.Prelude.{◌≡◌, ◌⊎◌, ℕ, zero, suc, ℤ, Bool, List, [], ◌∷◌, refl}
use Rattle.std.specs.Coded.{Coded, code_by, coded⊎, coded_ℕ, coded_ℤ, coded_bool, coded_list}
use mathlib.Core.Logic.{inl, inr}
use Rattle.farm_text.specs.Document.{Document, null, boolean, whole, text, array, object, Items, no_items, item, Members, no_members, member}

-- a mark, a truth value, a number, a text, or a key
abbrev pub Piece : Type 0
Piece = (ℕ ⊎ Bool) ⊎ (ℤ ⊎ (List ℕ ⊎ List ℕ))

-- the marks: null, the end of a list, an item, a list, the end of a map, a map
abbrev pub mark : ℕ → Piece
mark n = inl (inl n)

abbrev mutual
  -- the pieces of a document, before these
  pub document_before : Document → List Piece → List Piece
  document_before null ps = mark 0 ∷ ps
  document_before (boolean b) ps = inl (inr b) ∷ ps
  document_before (whole z) ps = inr (inl z) ∷ ps
  document_before (text t) ps = inr (inr (inl t)) ∷ ps
  document_before (array ds) ps = mark 3 ∷ items_before ds ps
  document_before (object ms) ps = mark 5 ∷ members_before ms ps

  pub items_before : Items → List Piece → List Piece
  items_before no_items ps = mark 1 ∷ ps
  items_before (item d ds) ps = mark 2 ∷ document_before d (items_before ds ps)

  pub members_before : Members → List Piece → List Piece
  members_before no_members ps = mark 4 ∷ ps
  members_before (member k d ms) ps = inr (inr (inr k)) ∷ document_before d (members_before ms ps)

-- what pieces stand for, each before what stands behind it
pub data Part : Type 0 where
  a_document : Document → Part
  some_items : Items → Part
  some_members : Members → Part

abbrev pub to_item : List Part → List Part
to_item (a_document d ∷ some_items ds ∷ ps) = some_items (item d ds) ∷ ps
to_item ps = ps

abbrev pub to_list : List Part → List Part
to_list (some_items ds ∷ ps) = a_document (array ds) ∷ ps
to_list ps = ps

abbrev pub to_map : List Part → List Part
to_map (some_members ms ∷ ps) = a_document (object ms) ∷ ps
to_map ps = ps

abbrev pub to_member : List ℕ → List Part → List Part
to_member k (a_document d ∷ some_members ms ∷ ps) = some_members (member k d ms) ∷ ps
to_member k ps = ps

abbrev pub parts_of_mark : ℕ → List Part → List Part
parts_of_mark zero ps = a_document null ∷ ps
parts_of_mark (suc zero) ps = some_items no_items ∷ ps
parts_of_mark (suc (suc zero)) ps = to_item ps
parts_of_mark (suc (suc (suc zero))) ps = to_list ps
parts_of_mark (suc (suc (suc (suc zero)))) ps = some_members no_members ∷ ps
parts_of_mark (suc (suc (suc (suc (suc n))))) ps = to_map ps

abbrev pub parts_of_piece : Piece → List Part → List Part
parts_of_piece (inl (inl n)) ps = parts_of_mark n ps
parts_of_piece (inl (inr b)) ps = a_document (boolean b) ∷ ps
parts_of_piece (inr (inl z)) ps = a_document (whole z) ∷ ps
parts_of_piece (inr (inr (inl t))) ps = a_document (text t) ∷ ps
parts_of_piece (inr (inr (inr k))) ps = to_member k ps

abbrev pub parts_of : List Piece → List Part
parts_of [] = []
parts_of (p ∷ ps) = parts_of_piece p (parts_of ps)

abbrev pub first_members : List Part → Members
first_members (some_members ms ∷ ps) = ms
first_members _ = no_members

mutual
  pub document-back : (d : Document) (ps : List Piece) → parts_of (document_before d ps) ≡ a_document d ∷ parts_of ps
  document-back null ps = refl
  document-back (boolean b) ps = refl
  document-back (whole z) ps = refl
  document-back (text t) ps = refl
  document-back (array ds) ps = rw (items-back ds ps) refl
  document-back (object ms) ps = rw (members-back ms ps) refl

  pub items-back : (ds : Items) (ps : List Piece) → parts_of (items_before ds ps) ≡ some_items ds ∷ parts_of ps
  items-back no_items ps = refl
  items-back (item d ds) ps = rw (document-back d (items_before ds ps), items-back ds ps) refl

  pub members-back : (ms : Members) (ps : List Piece) → parts_of (members_before ms ps) ≡ some_members ms ∷ parts_of ps
  members-back no_members ps = refl
  members-back (member k d ms) ps = rw (document-back d (members_before ms ps), members-back ms ps) refl

pub members_back : (ms : Members) → first_members (parts_of (members_before ms [])) ≡ ms
members_back ms = rw (members-back ms []) refl

abbrev pub members_code : Coded Members
members_code =
    code_by (List Piece) (coded_list (coded⊎ (coded⊎ coded_ℕ coded_bool) (coded⊎ coded_ℤ (coded⊎ (coded_list coded_ℕ) (coded_list coded_ℕ)))))
    (λ ms. members_before ms []) (λ ps. first_members (parts_of ps)) members_back
