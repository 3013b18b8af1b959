-- What a table of TOML has at its keys (TOML 1.1, "Table", "Array", "String", "Integer").
use Rattle.std.specs.Prelude.{ℕ, ℤ, pos, negsuc, ◌≤ℤ◌, Bool, true, false, List, [], ◌∷◌, Option, Some, None, is_some, unwrap_or, option_and_then}
use Rattle.std.specs.List.{list_all, list_any, filter_map}
use Rattle.std.specs.Str.{bytes_eq}
use Rattle.toml.specs.Data.{Data, array, Items, no_items, item, Members, no_members, member, as_bool, as_str, as_integer, get_member}

-- the keys of a table
abbrev pub keys_of : Members → List (List ℕ)
keys_of no_members = []
keys_of (member k d ms) = k ∷ keys_of ms

-- the items of an array
abbrev pub list_of : Items → List Data
list_of no_items = []
list_of (item d ds) = d ∷ list_of ds

-- there is no key but these
abbrev pub has_only : List (List ℕ) → Members → Bool
has_only known ms = list_all (λ key. list_any (λ name. bytes_eq name key) known) (keys_of ms)

-- each of these keys is there
abbrev pub has_all : List (List ℕ) → Members → Bool
has_all keys ms = list_all (λ key. is_some (get_member key ms)) keys

-- the kinds of values: a text, a whole number, a list of texts
abbrev pub is_text : Data → Bool
is_text d = is_some (as_str d)

-- the value is a whole number
abbrev pub is_whole : Data → Bool
is_whole d = is_some (as_integer d)

-- the value is true or false
abbrev pub is_truth : Data → Bool
is_truth d = is_some (as_bool d)

-- the value is a list of texts
abbrev pub are_texts : Data → Bool
are_texts (array ds) = list_all is_text (list_of ds)
are_texts _ = false

-- the value is of this kind, if there is one
abbrev pub passes : (Data → Bool) → Option Data → Bool
passes kind None = true
passes kind (Some d) = kind d

-- the text, and where there is none this one; a value of another kind is told by a rule of its own
abbrev pub text_or : List ℕ → Option Data → List ℕ
text_or default value = unwrap_or (option_and_then as_str value) default

-- the whole number, and where there is none this one
abbrev pub whole_or : ℤ → Option Data → ℤ
whole_or default value = unwrap_or (option_and_then as_integer value) default

-- true or false, and where there is neither this one
abbrev pub truth_or : Bool → Option Data → Bool
truth_or default value = unwrap_or (option_and_then as_bool value) default

-- the texts of a list
abbrev pub texts_in : Option Data → List (List ℕ)
texts_in (Some (array ds)) = filter_map as_str (list_of ds)
texts_in _ = []

-- from 1 to this number
abbrev pub IsUpTo : ℕ → ℤ → Type 0
IsUpTo most z = (pos 1 ≤ℤ z) × (z ≤ℤ pos most)

-- the number, if it is none below 0
abbrev pub natural : ℤ → ℕ
natural (pos n) = n
natural (negsuc n) = 0
