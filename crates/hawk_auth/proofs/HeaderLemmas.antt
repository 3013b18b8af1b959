-- What stands under a name among attributes.
use Rattle.std.proofs.Common.{◌≡◌, ℕ, ◌+◌, ◌<◌, ◌≤◌, Bool, true, false, cond, List, [], ◌∷◌, ◌++◌, length, take, drop, get_or, refl, sym, ap, ◌∙◌, subst, arith, length-append}
use Rattle.std.specs.Prelude.{map, filter}
use Rattle.std.specs.Str.{bytes_eq}
use Rattle.std.proofs.lemmas.List.{append-nil, take_more, take-append-drop}
use Rattle.std.proofs.lemmas.List.Elements.{filter-append}
use Rattle.hawk_auth.specs.Found.{IsFound}
use Rattle.hawk_auth.specs.Header.{AttributeData, attribute_data, attributes_data, values_of, HeaderData, HasScheme, IsAttributes, IsHeader, Says}
use Rattle.hawk_auth.specs.Mac.{skip_spaces}
use Rattle.hawk_auth.specs.declared.header.Found.{Found}
use Rattle.hawk_auth.specs.declared.header.Found.TheVariants.{Never, Once, Again}
use Rattle.hawk_auth.proofs.AttributeLemmas.{attributes_once}
use Rattle.hawk_auth.specs.declared.attributes.Attribute.{Attribute}

map_append : {X Y : Type 0} (f : X → Y) (xs ys : List X) → map f (xs ++ ys) ≡ map f xs ++ map f ys
map_append f [] ys = refl
map_append {X} {Y} f (x ∷ xs) ys = ap (λ (zs : List Y). f x ∷ zs) (map_append f xs ys)

module _ (name : List ℕ) where
  test : AttributeData → Bool
  test a = bytes_eq a.name name

  pub values_append : (xs ys : List Attribute) → values_of name (attributes_data (xs ++ ys)) ≡ values_of name (attributes_data xs) ++ values_of name (attributes_data ys)
  values_append xs ys =
      ap (values_of name) (map_append attribute_data xs ys)
      ∙ ap (λ (zs : List AttributeData). map (λ a. a.value) zs) (filter-append (λ a. bytes_eq a.name name) (attributes_data xs) (attributes_data ys))
      ∙ map_append (λ (a : AttributeData). a.value) (filter (λ a. bytes_eq a.name name) (attributes_data xs)) (filter (λ a. bytes_eq a.name name) (attributes_data ys))

  -- one more attribute that has the name, or has not
  pub values_yes : (xs : List Attribute) (i : ℕ) (d : Attribute) → i < length xs → bytes_eq (get_or xs i d).name.now name ≡ true
      → values_of name (attributes_data (take (i + 1) xs)) ≡ values_of name (attributes_data (take i xs)) ++ (get_or xs i d).value.now ∷ []
  values_yes xs i d lt e =
      let a : Attribute = get_or xs i d in
      ap (λ (zs : List Attribute). values_of name (attributes_data zs)) (take_more xs i d lt)
      ∙ values_append (take i xs) (a ∷ [])
      ∙ ap (λ (b : Bool). values_of name (attributes_data (take i xs)) ++ map (λ (x : AttributeData). x.value) (cond b (attribute_data a ∷ []) [])) e

  pub values_no : (xs : List Attribute) (i : ℕ) (d : Attribute) → i < length xs → bytes_eq (get_or xs i d).name.now name ≡ false
      → values_of name (attributes_data (take (i + 1) xs)) ≡ values_of name (attributes_data (take i xs))
  values_no xs i d lt e =
      let a : Attribute = get_or xs i d in
      ap (λ (zs : List Attribute). values_of name (attributes_data zs)) (take_more xs i d lt)
      ∙ values_append (take i xs) (a ∷ [])
      ∙ ap (λ (b : Bool). values_of name (attributes_data (take i xs)) ++ map (λ (x : AttributeData). x.value) (cond b (attribute_data a ∷ []) [])) e
      ∙ append-nil (values_of name (attributes_data (take i xs)))

  -- what stands in a front stands in the whole
  pub values_front : (xs : List Attribute) (n : ℕ) → length (values_of name (attributes_data (take n xs))) ≤ length (values_of name (attributes_data xs))
  values_front xs n =
      let whole : length (values_of name (attributes_data xs)) ≡ length (values_of name (attributes_data (take n xs)) ++ values_of name (attributes_data (drop n xs))) =
      ap (λ (zs : List (List ℕ)). length zs) (sym (ap (λ (zs : List Attribute). values_of name (attributes_data zs)) (take-append-drop n xs)) ∙ values_append (take n xs) (drop n xs)) in
      omega (arith, whole, length-append (values_of name (attributes_data (take n xs))) (values_of name (attributes_data (drop n xs))))

module _ (name : List ℕ) (xs : List Attribute) (i : ℕ) (d : Attribute) (lt : i < length xs) (yes : bytes_eq (get_or xs i d).name.now name ≡ true) where
  pub values_first : values_of name (attributes_data (take i xs)) ≡ [] → values_of name (attributes_data (take (i + 1) xs)) ≡ (get_or xs i d).value.now ∷ []
  values_first none = values_yes name xs i d lt yes ∙ ap (λ (vs : List (List ℕ)). vs ++ (get_or xs i d).value.now ∷ []) none

  pub values_again : 0 < length (values_of name (attributes_data (take i xs))) → 1 < length (values_of name (attributes_data xs))
  values_again some =
      omega (arith, some, ap length (values_yes name xs i d lt yes), length-append (values_of name (attributes_data (take i xs))) ((get_or xs i d).value.now ∷ []), values_front name xs (i + 1))

-- what was found once or more often is there
pub found_some : (values : List (List ℕ)) (found : Found) → IsFound values found → (found ≡ Never → ⊥) → 0 < length values
found_some values Never h some = absurd (some refl)
found_some values (Once v) h some = omega (arith, ap length h)
found_some values Again h some = omega (arith, h)

-- two rests of one text are the same
pub scheme_once : (text rest other : List ℕ) → HasScheme text rest → HasScheme text other → rest ≡ other
scheme_once text rest other h k = let e : 32 ∷ rest ≡ 32 ∷ other = sym h.space ∙ k.space in cc

-- a header that the attributes of a text do not say, it does not say
pub not_said : (text rest : List ℕ) (attributes : List AttributeData) → HasScheme text rest → IsAttributes attributes (skip_spaces rest)
    → ((h : HeaderData) → ¬ Says attributes h) → (h : HeaderData) → ¬ IsHeader text h
not_said text rest attributes scheme listed none h k =
    let same : k.rest ≡ rest = scheme_once text k.rest rest k.scheme scheme in
    let all : k.attributes ≡ attributes = attributes_once k.attributes attributes (skip_spaces rest) (subst (λ (r : List ℕ). IsAttributes k.attributes (skip_spaces r)) same k.listed) listed in
    none h (subst (λ (xs : List AttributeData). Says xs h) all k.says)
