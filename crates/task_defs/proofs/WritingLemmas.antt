-- What is written of members, put together.
use Rattle.std.proofs.Common.{◌≡◌, ℕ, List, [], ◌∷◌, ◌++◌, map, codes, option_map, option_and_then, Some, Result, Ok, Err, OnOk, refl, sym, ap, subst, ◌∙◌, append_assoc, append-nil}
use Rattle.json.specs.Token.{Token, key, string, begin_array, end_array, begin_object, end_object}
use Rattle.json.specs.Tree.{items_tokens, members_tokens}
use Rattle.serde_json.specs.Data as json
use Rattle.serde_json.specs.Read.{of_members}
use Rattle.serde_json.specs.Written.{items_outline, members_outline}
use Rattle.farm_text.specs.Document.{Document, text, object, items_of, members_of, data_of, items_data, members_data}
use Rattle.farm_text.specs.Written.{ReadsBack, ItemsReadBack, IsWhole, AreWhole, MembersWhole}
use Rattle.farm_text.proofs.DocLemmas.{tokens_of, AreWhole-item, MembersWhole-member}
use Rattle.task_defs.specs.Rules.{metadata_doc}
use Rattle.task_defs.specs.Definitions.{text_list, full_form, IsFullForm}
use Rattle.task_types.specs.declared.objects.Metadata.{Metadata}
use Rattle.task_types.specs.declared.task_def.TaskDef.{TaskDef}
use Rattle.task_defs.specs.Writing.{Pairs, member_tokens, AllReadBack, AllWhole, IsWritten, AreWritten, FirstAreWritten, first_members, work_members, owner_members, right_members, place_members}

-- ---- one member

pub text_written : (t : List ℕ) (old new : List Token) → new ≡ old ++ string t ∷ [] → IsWritten (text t) old new
text_written t old new e = record { tokens = e; reads_back = refl; whole = refl }

pub one_written : (k : List ℕ) (d : Document) (old named new : List Token) → named ≡ old ++ key k ∷ [] → IsWritten d named new → AreWritten ((k, d) ∷ []) old new
one_written k d old named new opened is = record {
  tokens = is.tokens ∙ ap (λ ts. ts ++ tokens_of d) opened ∙ append_assoc old (key k ∷ []) (tokens_of d) ∙ ap (λ ts. old ++ key k ∷ ts) (sym (append-nil (tokens_of d)));
  read_back = (is.reads_back, tt);
  whole = (is.whole, tt);
}

-- where the document's writer ends well
pub doc_written : {E : Type 0} (k : List ℕ) (d : Document) (old named new : List Token) (r : Result (Unit {0}) E) → named ≡ old ++ key k ∷ [] → OnOk r (new ≡ named ++ tokens_of d) → OnOk r (ReadsBack d) → OnOk r (IsWhole d)
    → OnOk r (AreWritten ((k, d) ∷ []) old new)
doc_written k d old named new (Ok u) opened e back whole = one_written k d old named new opened (record { tokens = e; reads_back = back; whole = whole })
doc_written k d old named new (Err e) opened _ _ _ = tt

-- and its document by another spelling
pub spelled : {A : Type 0} (k : List ℕ) (f : A → Document) (a b : A) (old new : List Token) → a ≡ b → AreWritten ((k, f a) ∷ []) old new → AreWritten ((k, f b) ∷ []) old new
spelled {A} k f a b old new same are = subst (λ (x : A). AreWritten ((k, f x) ∷ []) old new) same are

-- ---- several

member_tokens-append : (ms ns : Pairs) → member_tokens (ms ++ ns) ≡ member_tokens ms ++ member_tokens ns
member_tokens-append [] ns = refl
member_tokens-append (m ∷ ms) ns = ap (λ ts. key m.0 ∷ (tokens_of m.1 ++ ts)) (member_tokens-append ms ns) ∙ ap (λ ts. key m.0 ∷ ts) (sym (append_assoc (tokens_of m.1) (member_tokens ms) (member_tokens ns)))

AllReadBack-append : (ms ns : Pairs) → AllReadBack ms → AllReadBack ns → AllReadBack (ms ++ ns)
AllReadBack-append [] ns a b = b
AllReadBack-append (m ∷ ms) ns a b = (a.0, AllReadBack-append ms ns a.1 b)

AllWhole-append : (ms ns : Pairs) → AllWhole ms → AllWhole ns → AllWhole (ms ++ ns)
AllWhole-append [] ns a b = b
AllWhole-append (m ∷ ms) ns a b = (a.0, AllWhole-append ms ns a.1 b)

pub both_written : (ms ns : Pairs) (a b c : List Token) → AreWritten ms a b → AreWritten ns b c → AreWritten (ms ++ ns) a c
both_written ms ns a b c first second = record {
  tokens = second.tokens ∙ ap (λ ts. ts ++ member_tokens ns) first.tokens ∙ append_assoc a (member_tokens ms) (member_tokens ns) ∙ ap (λ ts. a ++ ts) (sym (member_tokens-append ms ns));
  read_back = AllReadBack-append ms ns first.read_back second.read_back;
  whole = AllWhole-append ms ns first.whole second.whole;
}

abbrev One : Type 0
One = List ℕ × Document

pub three_written : (l m n : One) (a b c d : List Token) → AreWritten (l ∷ []) a b → AreWritten (m ∷ []) b c → AreWritten (n ∷ []) c d → AreWritten (l ∷ m ∷ n ∷ []) a d
three_written l m n a b c d first second third = both_written (l ∷ []) (m ∷ n ∷ []) a b d first (both_written (m ∷ []) (n ∷ []) b c d second third)

pub four_written : (l m n o : One) (a b c d e : List Token) → AreWritten (l ∷ []) a b → AreWritten (m ∷ []) b c → AreWritten (n ∷ []) c d → AreWritten (o ∷ []) d e → AreWritten (l ∷ m ∷ n ∷ o ∷ []) a e
four_written l m n o a b c d e first second third fourth = both_written (l ∷ []) (m ∷ n ∷ o ∷ []) a b e first (three_written m n o b c d e second third fourth)

-- ---- a list of texts

texts_tokens : (ts : List (List ℕ)) → items_tokens (items_outline (items_data (items_of (map text ts)))) ≡ map string ts ++ end_array ∷ []
texts_tokens [] = refl
texts_tokens (t ∷ ts) = ap (λ (x : List Token). string t ∷ x) (texts_tokens ts)

texts_back : (ts : List (List ℕ)) → ItemsReadBack (items_of (map text ts))
texts_back [] = refl
texts_back (t ∷ ts) = ap (option_map (json.item (json.string t))) (texts_back ts)

texts_whole : (ts : List (List ℕ)) → AreWhole (items_of (map text ts))
texts_whole [] = λ place. refl
texts_whole (t ∷ ts) = AreWhole-item (text t) (items_of (map text ts)) refl (texts_whole ts)

pub texts_written : (ts : List (List ℕ)) (old opened filled new : List Token) → opened ≡ old ++ begin_array ∷ [] → filled ≡ opened ++ map string ts → new ≡ filled ++ end_array ∷ [] → IsWritten (text_list ts) old new
texts_written ts old opened filled new begun full ended = record {
  tokens = ended ∙ ap (λ x. x ++ end_array ∷ []) (full ∙ ap (λ x. x ++ map string ts) begun ∙ append_assoc old (begin_array ∷ []) (map string ts))
      ∙ append_assoc old (begin_array ∷ map string ts) (end_array ∷ []) ∙ ap (λ x. old ++ begin_array ∷ x) (sym (texts_tokens ts));
  reads_back = ap (option_map json.array) (texts_back ts);
  whole = texts_whole ts 0;
}

-- ---- a map

-- the data of these members, put one after the other
abbrev put_all : Pairs → json.Members → json.Members
put_all [] found = found
put_all (m ∷ ms) found = put_all ms (json.put m.0 (data_of m.1) found)

members_closed : (ms : Pairs) → members_tokens (members_outline (members_data (members_of ms))) ≡ member_tokens ms ++ end_object ∷ []
members_closed [] = refl
members_closed (m ∷ ms) = ap (λ ts. key m.0 ∷ (tokens_of m.1 ++ ts)) (members_closed ms) ∙ ap (λ ts. key m.0 ∷ ts) (sym (append_assoc (tokens_of m.1) (member_tokens ms) (end_object ∷ [])))

members_back : (ms : Pairs) (found : json.Members) → AllReadBack ms → of_members (members_outline (members_data (members_of ms))) found ≡ Some (put_all ms found)
members_back [] found back = refl
members_back (m ∷ ms) found back =
    ap (option_and_then (λ d. of_members (members_outline (members_data (members_of ms))) (json.put m.0 d found))) back.0 ∙ members_back ms (json.put m.0 (data_of m.1) found) back.1

members_whole : (ms : Pairs) → AllWhole ms → MembersWhole (members_of ms)
members_whole [] whole = refl
members_whole (m ∷ ms) whole = MembersWhole-member m.0 m.1 (members_of ms) whole.0 (members_whole ms whole.1)

-- their keys rise
abbrev Rise : Pairs → Type 0
Rise ms = put_all ms json.no_members ≡ members_data (members_of ms)

map_written : (ms : Pairs) (old opened filled new : List Token) → Rise ms → opened ≡ old ++ begin_object ∷ [] → AreWritten ms opened filled → new ≡ filled ++ end_object ∷ [] → IsWritten (object (members_of ms)) old new
map_written ms old opened filled new rise begun are ended = record {
  tokens = ended ∙ ap (λ x. x ++ end_object ∷ []) (are.tokens ∙ ap (λ x. x ++ member_tokens ms) begun ∙ append_assoc old (begin_object ∷ []) (member_tokens ms))
      ∙ append_assoc old (begin_object ∷ member_tokens ms) (end_object ∷ []) ∙ ap (λ x. old ++ begin_object ∷ x) (sym (members_closed ms));
  reads_back = ap (option_map json.object) (members_back ms json.no_members are.read_back ∙ ap Some rise);
  whole = members_whole ms are.whole;
}

-- ---- the metadata

metadata_rises : (m : Metadata) → Rise ((codes "description", text m.description) ∷ (codes "name", text m.name) ∷ (codes "owner", text m.owner) ∷ (codes "source", text m.source) ∷ [])
metadata_rises m = refl

pub metadata_written : (m : Metadata) (old opened a b c d new : List Token) → opened ≡ old ++ begin_object ∷ []
    → AreWritten ((codes "description", text m.description) ∷ []) opened a → AreWritten ((codes "name", text m.name) ∷ []) a b
    → AreWritten ((codes "owner", text m.owner) ∷ []) b c → AreWritten ((codes "source", text m.source) ∷ []) c d → new ≡ d ++ end_object ∷ [] → IsWritten (metadata_doc m) old new
metadata_written m old opened a b c d new begun first second third fourth ended =
    map_written _ old opened d new (metadata_rises m) begun (four_written _ _ _ _ opened a b c d first second third fourth) ended

-- ---- the full form

abbrev all_members : TaskDef → List ℕ → List ℕ → List ℕ → Pairs
all_members def created deadline expires = first_members def created deadline expires ++ (work_members def ++ (owner_members def ++ (right_members def ++ place_members def)))

form_rises : (def : TaskDef) (c d e : List ℕ) → Rise (all_members def c d e)
form_rises def c d e = refl

pub form_written : (def : TaskDef) (old opened a b c d e new : List Token) → opened ≡ old ++ begin_object ∷ [] → FirstAreWritten def opened a → AreWritten (work_members def) a b → AreWritten (owner_members def) b c
    → AreWritten (right_members def) c d → AreWritten (place_members def) d e → new ≡ e ++ end_object ∷ [] → (full : Document) × IsFullForm def full × IsWritten full old new
form_written def old opened a b c d e new begun first work owner right place ended =
    let ms : Pairs = all_members def first.created first.deadline first.expires in
    let are : AreWritten ms opened e = both_written _ _ opened a e first.are (both_written _ _ a b e work (both_written _ _ b c e owner (both_written _ _ c d e right place))) in (
      full_form def first.created first.deadline first.expires,
      record { created = first.created; deadline = first.deadline; expires = first.expires; created_text = first.created_text; deadline_text = first.deadline_text; expires_text = first.expires_text; is = refl },
      map_written ms old opened e new (form_rises def first.created first.deadline first.expires) begun are ended,
    )
