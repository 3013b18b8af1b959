-- Tokens that are written one piece behind the other.
use Rattle.std.proofs.Common.{◌≡◌, ℕ, List, [], ◌∷◌, ◌++◌, refl, sym, ap, ◌∙◌, append_assoc, append-nil}
use Rattle.json.specs.Print.{print}
use Rattle.json.specs.Token.{Token, begin_object, end_object, begin_array, end_array, key, string}
use Rattle.json.specs.Tree.{members_tokens}
use Rattle.serde_json.specs.Written.{members_outline}
use Rattle.serde_json.proofs.Texts.{print-outline}
use Rattle.farm_text.specs.Document.{Document, Items, array, object, members_of, members_data, data_of, document_text}
use Rattle.task_statuses.specs.Tokens.{tokens_of, tokens_of_items, tokens_of_members}

-- a piece and then another
pub both : (t u v a b : List Token) → u ≡ t ++ a → v ≡ u ++ b → v ≡ t ++ (a ++ b)
both t u v a b first second = second ∙ ap (λ (s : List Token). s ++ b) first ∙ append_assoc t a b

-- a text by another spelling
pub spelled : (t u : List Token) (k a b : List ℕ) → u ≡ t ++ key k ∷ string a ∷ [] → a ≡ b → u ≡ t ++ key k ∷ string b ∷ []
spelled t u k a b written same = written ∙ ap (λ (s : List ℕ). t ++ key k ∷ string s ∷ []) same

-- a key and then its document
pub member_then : (t u v : List Token) (k : List ℕ) (d : Document) → u ≡ t ++ key k ∷ [] → v ≡ u ++ tokens_of d → v ≡ t ++ tokens_of_members ((k, d) ∷ [])
member_then t u v k d named written = both t u v (key k ∷ []) (tokens_of d) named written ∙ ap (λ (s : List Token). t ++ key k ∷ s) (sym (append-nil (tokens_of d)))

append-members : (a b : List (List ℕ × Document)) → tokens_of_members (a ++ b) ≡ tokens_of_members a ++ tokens_of_members b
append-members [] b = refl
append-members (m ∷ a) b =
    ap (λ (s : List Token). key m.0 ∷ (tokens_of m.1 ++ s)) (append-members a b)
    ∙ ap (λ (s : List Token). key m.0 ∷ s) (sym (append_assoc (tokens_of m.1) (tokens_of_members a) (tokens_of_members b)))

-- members and then more
pub members_then : (t u v : List Token) (a b : List (List ℕ × Document)) → u ≡ t ++ tokens_of_members a → v ≡ u ++ tokens_of_members b → v ≡ t ++ tokens_of_members (a ++ b)
members_then t u v a b first second = both t u v (tokens_of_members a) (tokens_of_members b) first second ∙ ap (λ (s : List Token). t ++ s) (sym (append-members a b))

inside : (ms : List (List ℕ × Document)) → tokens_of_members ms ++ end_object ∷ [] ≡ members_tokens (members_outline (members_data (members_of ms)))
inside [] = refl
inside (m ∷ ms) =
    ap (λ (s : List Token). key m.0 ∷ s) (append_assoc (tokens_of m.1) (tokens_of_members ms) (end_object ∷ []) ∙ ap (λ (s : List Token). tokens_of m.1 ++ s) (inside ms))

-- members between their brackets
pub object_then : (t u v w : List Token) (ms : List (List ℕ × Document)) → u ≡ t ++ begin_object ∷ [] → v ≡ u ++ tokens_of_members ms → w ≡ v ++ end_object ∷ []
    → w ≡ t ++ tokens_of (object (members_of ms))
object_then t u v w ms opened written closed =
    both t u w (begin_object ∷ []) (tokens_of_members ms ++ end_object ∷ []) opened (both u v w (tokens_of_members ms) (end_object ∷ []) written closed)
    ∙ ap (λ (s : List Token). t ++ begin_object ∷ s) (inside ms)

-- one item more is written, and the rest makes the whole
pub item_then : (t u whole : List Token) (d : Document) (rest : Items) → u ≡ t ++ tokens_of d → t ++ (tokens_of d ++ tokens_of_items rest) ≡ whole → u ++ tokens_of_items rest ≡ whole
item_then t u whole d rest written all = ap (λ (s : List Token). s ++ tokens_of_items rest) written ∙ append_assoc t (tokens_of d) (tokens_of_items rest) ∙ all

-- items between their brackets
pub array_then : (t u v w : List Token) (ds : Items) → u ≡ t ++ begin_array ∷ [] → v ++ end_array ∷ [] ≡ u ++ tokens_of_items ds → w ≡ v ++ end_array ∷ [] → w ≡ t ++ tokens_of (array ds)
array_then t u v w ds opened written closed = both t u w (begin_array ∷ []) (tokens_of_items ds) opened (closed ∙ written)

-- what is written from nothing is the document's text
pub text_of : (start written : List Token) (text : List ℕ) (d : Document) → start ≡ [] → written ≡ start ++ tokens_of d → text ≡ print written → text ≡ document_text d
text_of start written text d nothing is printed = printed ∙ ap print (is ∙ ap (λ (s : List Token). s ++ tokens_of d) nothing) ∙ print-outline (data_of d)

-- two members with texts, by other spellings
pub two_texts : (t u v : List Token) (k l a b x y : List ℕ) → u ≡ t ++ key k ∷ string a ∷ [] → v ≡ u ++ key l ∷ string b ∷ [] → a ≡ x → b ≡ y → v ≡ t ++ key k ∷ string x ∷ key l ∷ string y ∷ []
two_texts t u v k l a b x y first second same alike = both t u v (key k ∷ string x ∷ []) (key l ∷ string y ∷ []) (spelled t u k a x first same) (spelled u v l b y second alike)

-- members of what is the same
pub members_of_same : {A : Type 0} (t u : List Token) (f : A → List (List ℕ × Document)) (x y : A) → u ≡ t ++ tokens_of_members (f x) → x ≡ y → u ≡ t ++ tokens_of_members (f y)
members_of_same t u f x y written same = written ∙ ap (λ z. t ++ tokens_of_members (f z)) same
