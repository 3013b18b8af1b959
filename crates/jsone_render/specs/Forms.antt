-- Which operator a map of a template has, and which keys go with it (JSON-e, "Operators"): this is judged before anything in the map is rendered.
use Rattle.std.specs.Prelude.{◌≡◌, ℕ, Bool, true, false, not, ◌&&◌, ◌||◌, codes, is_some, if◌then◌else◌, List, [], ◌∷◌, map, Option, Some, None, Result, Ok, Err, ◌⊎◌}
use Rattle.std.specs.List.{filter, list_any}
use Rattle.std.specs.Map.{lookup}
use Rattle.std.specs.Str.{bytes_eq}
use Rattle.farm_text.specs.Document.{Members, member_at}
use Rattle.jsone_values.specs.declared.faults.Fault.{Fault}
use Rattle.jsone_values.specs.declared.faults.Fault.TheVariants.{BadOperator}
use Rattle.jsone_render.specs.declared.operators.Operator.{Operator}
use Rattle.jsone_render.specs.declared.operators.Operator.TheVariants.{Eval, Json, If, Switch, Match, Let, Map, Reduce, Find, Flatten, FlattenDeep, Merge, MergeDeep, Sort, Reverse, FromNow}
use Rattle.jsone_render.specs.Maps.{keys_of, is_operator_key}
use Rattle.jsone_render.specs.Names.{IsBinder}

-- a map without an operator; one whose keys are a fault; an operator; and one beside which a key binds names
pub data Form : Type 0 where
  plain : Form
  faulty : Fault → Form
  alone : Operator → Form
  binding : Operator → List ℕ → List (List ℕ) → Form

-- the operator's own key
abbrev pub key_of : Operator → List ℕ
key_of Eval = codes "$eval"
key_of Json = codes "$json"
key_of If = codes "$if"
key_of Switch = codes "$switch"
key_of Match = codes "$match"
key_of Let = codes "$let"
key_of Map = codes "$map"
key_of Reduce = codes "$reduce"
key_of Find = codes "$find"
key_of Flatten = codes "$flatten"
key_of FlattenDeep = codes "$flattenDeep"
key_of Merge = codes "$merge"
key_of MergeDeep = codes "$mergeDeep"
key_of Sort = codes "$sort"
key_of Reverse = codes "$reverse"
key_of FromNow = codes "$fromNow"

abbrev pub operator_names : List (List ℕ × Operator)
operator_names = map (λ o. (key_of o, o))
    (Eval ∷ Json ∷ If ∷ Switch ∷ Match ∷ Let ∷ Map ∷ Reduce ∷ Find ∷ Flatten ∷ FlattenDeep ∷ Merge ∷ MergeDeep ∷ Sort ∷ Reverse ∷ FromNow ∷ [])

abbrev pub known : Option Operator → Result (Option Operator) Fault
known (Some operator) = Ok (Some operator)
known None = Err BadOperator

-- of the keys that are operators there may be one, and it has to be known
abbrev pub operator_of : List (List ℕ) → Result (Option Operator) Fault
operator_of [] = Ok None
operator_of (k ∷ []) = known (lookup (bytes_eq k) operator_names)
operator_of (k ∷ l ∷ ks) = Err BadOperator

abbrev pub operator_in : List (List ℕ) → Result (Option Operator) Fault
operator_in keys = operator_of (filter is_operator_key keys)

-- the words that may stand beside an operator
abbrev pub words_of : Operator → List (List ℕ)
words_of If = codes "then" ∷ codes "else" ∷ []
words_of Let = codes "in" ∷ []
words_of Reduce = codes "initial" ∷ []
words_of FromNow = codes "from" ∷ []
words_of _ = []

-- those that have to stand there
abbrev pub has_words : Operator → Members → Bool
has_words Let ms = is_some (member_at (codes "in") ms)
has_words Reduce ms = is_some (member_at (codes "initial") ms)
has_words _ ms = true

-- the keys that are neither the operator nor its words
abbrev pub others_of : Operator → List (List ℕ) → List (List ℕ)
others_of operator keys = filter (λ k. not (is_operator_key k || list_any (bytes_eq k) (words_of operator))) keys

-- which of them a key has to bind names for
abbrev pub stands_alone : Operator → Bool
stands_alone Map = false
stands_alone Reduce = false
stands_alone Find = false
stands_alone _ = true

-- the word before the brackets, and how many names may stand in them
abbrev pub binding_word : Operator → List ℕ
binding_word Sort = codes "by"
binding_word _ = codes "each"

abbrev pub takes_names : Operator → List (List ℕ) → Bool
takes_names Map (v ∷ []) = true
takes_names Map (v ∷ i ∷ []) = true
takes_names Find (v ∷ []) = true
takes_names Find (v ∷ i ∷ []) = true
takes_names Reduce (a ∷ v ∷ []) = true
takes_names Reduce (a ∷ v ∷ i ∷ []) = true
takes_names Sort (v ∷ []) = true
takes_names _ _ = false

-- the key binds these names for the operator
pub record Binds (operator : Operator) (key : List ℕ) (names : List (List ℕ)) : Type 0 where
  pub binder : IsBinder (binding_word operator) key names
  pub taken : takes_names operator names ≡ true

abbrev pub ByOthers : List (List ℕ) → Operator → Members → Form → Type 0
ByOthers [] operator ms form = form ≡ (if stands_alone operator && has_words operator ms then alone operator else faulty BadOperator)
ByOthers (key ∷ []) operator ms form =
    ((names : List (List ℕ)) × Binds operator key names × (form ≡ (if has_words operator ms then binding operator key names else faulty BadOperator)))
    ⊎ (((names : List (List ℕ)) → ¬ Binds operator key names) × (form ≡ faulty BadOperator))
ByOthers (key ∷ l ∷ ks) operator ms form = form ≡ faulty BadOperator

abbrev pub ByOperator : Result (Option Operator) Fault → Members → Form → Type 0
ByOperator (Ok None) ms form = form ≡ plain
ByOperator (Ok (Some operator)) ms form = ByOthers (others_of operator (keys_of ms)) operator ms form
ByOperator (Err f) ms form = form ≡ faulty f

abbrev pub IsForm : Members → Form → Type 0
IsForm ms form = ByOperator (operator_in (keys_of ms)) ms form
