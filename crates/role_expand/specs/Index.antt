-- The roles by their keys: the text before the `*` of an id, or an id without one.
use Rattle.std.specs.Prelude.{◌≡◌, ℕ, ◌-◌, ◌<◌, ◌≤◌, ◌⊎◌, false, List, [], ◌∷◌, ◌++◌, length, Some, slice_get, slice_index, slice_index_or, string_bytes, Contains}
use Rattle.std.specs.Cmp.Lexicographic.{slice_cmp}
use Rattle.std.specs.Ordering.{nat_cmp, is_lt}
use Rattle.scope_sets.specs.Scopes.{star}
use Rattle.role_expand.specs.Roles.{RoleData, EndsWithStar}
use Rattle.role_expand.specs.declared.index.RoleKey.{RoleKey}

-- the text of a key
abbrev pub text_of : RoleKey → List ℕ
text_of key = string_bytes key.text

-- the first text begins with the second
abbrev pub Begins : List ℕ → List ℕ → Type 0
Begins s front = (rest : List ℕ) × (s ≡ front ++ rest)

-- no key is less than one before it
abbrev pub AreRising : List RoleKey → Type 0
AreRising keys = (i j : ℕ) (d : RoleKey) → i ≤ j → j < length keys → is_lt (slice_cmp nat_cmp (text_of (slice_index_or keys j d)) (text_of (slice_index_or keys i d))) ≡ false

-- the key at j stands before `at`, and the key right before `at` begins with it
pub record IsUnder (keys : List RoleKey) (at j : ℕ) : Type 0 where
  pub below : j < at
  pub begins : (d : RoleKey) → Begins (text_of (slice_index_or keys (at - 1) d)) (text_of (slice_index_or keys j d))

-- for each of the first keys, what it begins with of those before it stands under its link
pub record AreLinks (keys : List RoleKey) (links : List ℕ) : Type 0 where
  pub back : (k : ℕ) → k < length links → slice_index links k ≤ k
  pub whole : (k j : ℕ) → k < length links → j < k → ((d : RoleKey) → Begins (text_of (slice_index_or keys k d)) (text_of (slice_index_or keys j d))) → IsUnder keys (slice_index links k) j

-- what an index holds
pub record IsIndex (keys : List RoleKey) (links : List ℕ) : Type 0 where
  pub rising : AreRising keys
  pub linked : AreLinks keys links
  pub as_long : length links ≡ length keys

-- the key of an id
abbrev pub HasKey : List ℕ → List ℕ → Type 0
HasKey id text = ((¬ EndsWithStar id) × (id ≡ text)) ⊎ (id ≡ text ++ star ∷ [])

-- each role has its key among these, with its place
abbrev pub AreKeysOf : List RoleData → List RoleKey → Type 0
AreKeysOf roles keys = (i : ℕ) (role : RoleData) → slice_get roles i ≡ Some role → (key : RoleKey) × Contains keys key × (key.place ≡ i) × HasKey role.id (text_of key)
