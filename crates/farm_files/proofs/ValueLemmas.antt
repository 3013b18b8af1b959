-- The members of a table, and the items of an array, beside the values that stand for them.
use Rattle.std.proofs.Common.{◌≡◌, ℕ, ◌+◌, ◌<◌, Bool, true, false, ◌||◌, Bor, List, [], ◌∷◌, ◌++◌, length, get_or, drop, map, Some, None, String, Global, string_bytes, refl, sym, ap, ◌∙◌, append_assoc}
use Rattle.std.proofs.lemmas.List.{drop_more}
use Rattle.std.specs.List.{list_all, list_any, filter_map}
use Rattle.std.specs.Str.{bytes_eq}
use Rattle.std.specs.Map.{keys_of as entry_keys}
use Rattle.toml.specs.Data.{as_str}
use Rattle.toml.specs.View.{view, items_of, members_view}
use Rattle.toml.specs.declared.value.Value.{Value}
use Rattle.toml.proofs.Views.{Entry}
use Rattle.farm_files.specs.Values.{has_only, list_of, is_text}

list_any-now : (known : List (Bor (List ℕ))) (key : List ℕ) → list_any (λ name. bytes_eq name key) (map (λ k. k.now) known) ≡ list_any (λ name. bytes_eq name.now key) known
list_any-now [] key = refl
list_any-now (k ∷ ks) key = ap (λ (b : Bool). bytes_eq k.now key || b) (list_any-now ks key)

-- the keys of a map, each tried as it stands
pub has_only-view : (known : List (Bor (List ℕ))) (es : List Entry)
    → has_only (map (λ k. k.now) known) (members_view es) ≡ list_all (λ key. list_any (λ name. bytes_eq name.now (string_bytes key)) known) (entry_keys es)
has_only-view known [] = refl
has_only-view known (e ∷ es) = rw (list_any-now known (string_bytes e.0), has_only-view known es) refl

pub list_of-items : (vs : List Value) → list_of (items_of (map view vs)) ≡ map view vs
list_of-items [] = refl
list_of-items (v ∷ vs) = ap (λ ds. view v ∷ ds) (list_of-items vs)

-- what a walk over values has found: the texts so far, and that the rest decides
pub record HasTexts (vs : List Value) (i : ℕ) (done : List (List ℕ)) : Type 0 where
  pub all : list_all is_text (map view vs) ≡ list_all is_text (map view (drop i vs))
  pub texts : filter_map as_str (map view vs) ≡ done ++ filter_map as_str (map view (drop i vs))

pub texts_more : (vs : List Value) (i : ℕ) (v : Value) (t : List ℕ) (done : List (List ℕ)) → i < length vs → v ≡ get_or vs i v → Some t ≡ as_str (view v)
    → HasTexts vs i done → HasTexts vs (i + 1) (done ++ t ∷ [])
texts_more vs i v t done lt at is h =
    let cut : drop i vs ≡ v ∷ drop (i + 1) vs = drop_more vs i v lt ∙ ap (λ w. w ∷ drop (i + 1) vs) (sym at) in
    record {
      all = h.all ∙ rw (cut, ← is) refl;
      texts = h.texts ∙ rw (cut, ← is) (sym (append_assoc done (t ∷ []) (filter_map as_str (map view (drop (i + 1) vs)))));
    }

pub texts_stop : (vs : List Value) (i : ℕ) (v : Value) (done : List (List ℕ)) → i < length vs → v ≡ get_or vs i v → None ≡ as_str (view v)
    → HasTexts vs i done → list_all is_text (map view vs) ≡ false
texts_stop vs i v done lt at is h =
    let cut : drop i vs ≡ v ∷ drop (i + 1) vs = drop_more vs i v lt ∙ ap (λ w. w ∷ drop (i + 1) vs) (sym at) in
    h.all ∙ rw (cut, ← is) refl

-- a walk over keys: what the keys that are left decide
pub keys_more : (p : String Global → Bool) (whole : Bool) (s t : List (String Global)) (k : String Global) → whole ≡ list_all p s → s ≡ k ∷ t → p k ≡ true → whole ≡ list_all p t
keys_more p whole s t k left cut pass = left ∙ ap (list_all p) cut ∙ rw pass refl

pub keys_stop : (p : String Global → Bool) (whole : Bool) (s t : List (String Global)) (k : String Global) → whole ≡ list_all p s → s ≡ k ∷ t → p k ≡ false → whole ≡ false
keys_stop p whole s t k left cut fails = left ∙ ap (list_all p) cut ∙ rw fails refl

pub keys_end : (p : String Global → Bool) (whole : Bool) (s : List (String Global)) → whole ≡ list_all p s → s ≡ [] → whole ≡ true
keys_end p whole s left cut = left ∙ ap (list_all p) cut
