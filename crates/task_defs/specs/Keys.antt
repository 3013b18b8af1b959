-- Rule 1: which keys a definition has, the kind of each value, how deep it nests, and which keys must stand.
use Rattle.std.specs.Prelude.{◌≡◌, ℕ, ◌⊎◌, Bool, true, false, ◌&&◌, ◌||◌, nat_le, List, [], ◌∷◌, ◌++◌, Some, is_some, cond, codes}
use Rattle.std.specs.List.{list_any}
use Rattle.std.specs.Str.{bytes_eq}
use Rattle.farm_text.specs.Document.{Document, null, boolean, whole, text, array, object, get}
use Rattle.task_defs.specs.Documents.{nesting}

-- the keys whose value is a text
abbrev pub text_keys : List (List ℕ)
text_keys =
    codes "created" ∷ codes "deadline" ∷ codes "expires" ∷ codes "priority" ∷ codes "projectId" ∷ codes "provisionerId"
    ∷ codes "requires" ∷ codes "schedulerId" ∷ codes "taskGroupId" ∷ codes "taskQueueId" ∷ codes "workerType" ∷ []

-- the keys whose value is a list
abbrev pub list_keys : List (List ℕ)
list_keys = codes "dependencies" ∷ codes "routes" ∷ codes "scopes" ∷ []

-- the keys whose value is a map
abbrev pub map_keys : List (List ℕ)
map_keys = codes "extra" ∷ codes "metadata" ∷ codes "payload" ∷ codes "tags" ∷ []

-- the keys whose value is a number
abbrev pub number_keys : List (List ℕ)
number_keys = codes "retries" ∷ []

-- a key is one of these
abbrev pub is_among : List (List ℕ) → List ℕ → Bool
is_among names key = list_any (λ name. bytes_eq name key) names

-- the key is known, and the value is of its kind
abbrev pub has_kind : List ℕ → Document → Bool
has_kind key null = false
has_kind key (boolean b) = false
has_kind key (whole z) = is_among number_keys key
has_kind key (text t) = is_among text_keys key
has_kind key (array ds) = is_among list_keys key
has_kind key (object ms) = is_among map_keys key

-- the value may stand at the key: it is of the key's kind, and the definition around it nests at most 127 deep
abbrev pub may_stand : List ℕ → Document → Bool
may_stand key d = has_kind key d && nat_le (nesting d) 126

-- there is a value at a key
abbrev pub has : List ℕ → Document → Bool
has key d = is_some (get key d)

-- the keys that must stand: a provisioner needs its worker type, a worker type its provisioner, and without both the queue is needed
abbrev pub required : Document → List (List ℕ)
required d =
    codes "created" ∷ codes "deadline" ∷ codes "metadata" ∷ codes "payload"
    ∷ (cond (has (codes "workerType") d) (codes "provisionerId" ∷ []) []
    ++ (cond (has (codes "provisionerId") d || has (codes "workerType") d) [] (codes "taskQueueId" ∷ [])
    ++ cond (has (codes "provisionerId") d) (codes "workerType" ∷ []) []))

-- a value stands at the key that may not stand there
abbrev pub IsUnfit : Document → List ℕ → Type 0
IsUnfit d key = (v : Document) × (get key d ≡ Some v) × (may_stand key v ≡ false)

-- the key must stand, and does not
abbrev pub IsMissing : Document → List ℕ → Type 0
IsMissing d key = (is_among (required d) key ≡ true) × (has key d ≡ false)

-- the keys that break rule 1; what is no map breaks it at the empty text
abbrev pub KeyBreaks : Document → List ℕ → Type 0
KeyBreaks (object ms) key = IsUnfit (object ms) key ⊎ IsMissing (object ms) key
KeyBreaks _ key = key ≡ []
