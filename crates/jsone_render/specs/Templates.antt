-- What a template comes to, and what it costs (JSON-e, "Language Reference"), as equations on documents.
use Rattle.std.specs.Prelude.{◌≡◌, ℕ, ◌+◌, decimal, codes, is_some, List, [], ◌∷◌, ◌++◌, length, Option, Some, None, Result, Err}
use Rattle.std.specs.Bool.{MatchBool}
use Rattle.std.specs.Cmp.Lexicographic.{slice_cmp}
use Rattle.std.specs.List.{list_all}
use Rattle.std.specs.Ordering.{nat_cmp, is_eq}
use Rattle.farm_text.specs.Document.{Document, null, boolean, whole, text, array, object, items_of, Items, no_items, item, Members, no_members, member, member_at}
use Rattle.farm_text.specs.Reading.{escaped}
use Rattle.jsone_values.specs.declared.faults.Fault.{Fault}
use Rattle.jsone_values.specs.declared.faults.Fault.TheVariants.{BadOperator, BadContext}
use Rattle.jsone_values.specs.Members.{listed}
use Rattle.jsone_eval.specs.Calls.{IsFromNowAt}
use Rattle.jsone_eval.specs.Scopes.{bound}
use Rattle.jsone_render.specs.declared.operators.Operator.{Operator}
use Rattle.jsone_render.specs.declared.operators.Operator.TheVariants.{Eval, Json, If, Switch, Match, Let, Map, Reduce, Find, Flatten, FlattenDeep, Merge, MergeDeep, Sort, Reverse, FromNow}
use Rattle.jsone_render.specs.Bindings.{LetRenders, MappedOver, ReducedOver, FoundIn}
use Rattle.jsone_render.specs.Conditions.{EvalRenders, IfRenders, SwitchRenders, MatchRenders}
use Rattle.jsone_render.specs.Forms.{key_of, Form, plain, faulty, alone, binding, IsForm}
use Rattle.jsone_render.specs.Maps.{keys_of, kept_at, KeysRender}
use Rattle.jsone_render.specs.Merges.{merge_of, deep_merge_of, flatten_of, deep_flatten_of, reverse_of, json_of}
use Rattle.jsone_render.specs.Names.{is_name}
use Rattle.jsone_render.specs.Outcomes.{Outcome, given, faulted, pay, at_operator, as_found, under, After, kept, Meaning, Operand}
use Rattle.jsone_render.specs.Sorting.{IsSortAlone, SortedBy}
use Rattle.jsone_render.specs.Texts.{TextRenders}

-- what an operator gives for the value of its operand alone
abbrev pub IsGivenBy : Operator → Document → Result Document Fault → Type 0
IsGivenBy Json d r = r ≡ json_of d
IsGivenBy Flatten d r = r ≡ flatten_of d
IsGivenBy FlattenDeep d r = r ≡ deep_flatten_of d
IsGivenBy Merge d r = r ≡ merge_of d
IsGivenBy MergeDeep d r = r ≡ deep_merge_of d
IsGivenBy Sort d r = IsSortAlone d r
IsGivenBy Reverse d r = r ≡ reverse_of d
IsGivenBy _ d r = r ≡ Err BadOperator

abbrev pub Given : Operator → Document → ℕ → Outcome (Option Document) → Type 0
Given operator d n o = (r : Result Document Fault) × IsGivenBy operator d r × (o ≡ at_operator n (as_found r))

-- `$fromNow`, from a moment that is rendered, or else from what `now` is bound to
abbrev pub SpanRenders : Document → Option Document → ℕ → Outcome (Option Document) → Type 0
SpanRenders d from n o = (r : Result Document Fault) × IsFromNowAt d from r × (o ≡ at_operator n (as_found r))

abbrev pub FromNowRenders : Members → (List ℕ → Meaning) → Meaning
FromNowRenders ms Member scopes n o =
    Operand (Member (codes "$fromNow")) scopes n
    (λ d m p. MatchBool (is_some (member_at (codes "from") ms)) (Operand (Member (codes "from")) scopes m (λ from k. SpanRenders d (Some from) k) p) (SpanRenders d (bound (codes "now") scopes) m p))
    o

-- an operator alone; `Member` says what stands at a key, and `Branch` what stands at a key of the map that a member is
abbrev pub AloneRenders : Operator → Members → (List ℕ → Meaning) → (List ℕ → List ℕ → Meaning) → Meaning
AloneRenders Eval ms Member Branch scopes n o = EvalRenders ms scopes n o
AloneRenders If ms Member Branch scopes n o = IfRenders ms Member scopes n o
AloneRenders Switch ms Member Branch scopes n o = SwitchRenders (member_at (codes "$switch") ms) (Branch (codes "$switch")) scopes n o
AloneRenders Match ms Member Branch scopes n o = MatchRenders (member_at (codes "$match") ms) (Branch (codes "$match")) scopes n o
AloneRenders Let ms Member Branch scopes n o = LetRenders Member scopes n o
AloneRenders FromNow ms Member Branch scopes n o = FromNowRenders ms Member scopes n o
AloneRenders operator ms Member Branch scopes n o = Operand (Member (key_of operator)) scopes n (Given operator) o

-- an operator over the value of its operand, with names that a key binds
abbrev pub BoundOver : Operator → List ℕ → List (List ℕ) → Members → (List ℕ → Meaning) → Document → Meaning
BoundOver Map key names ms Member d scopes n o = MappedOver (Member key) names d scopes n o
BoundOver Reduce key names ms Member d scopes n o = Operand (Member (codes "initial")) scopes n (λ initial. ReducedOver (Member key) names initial d scopes) o
BoundOver Find key names ms Member d scopes n o = FoundIn (member_at key ms) names d scopes n o
BoundOver Sort key names ms Member d scopes n o = SortedBy (member_at key ms) names d scopes n o
BoundOver _ key names ms Member d scopes n o = o ≡ faulted BadOperator []

abbrev pub BindingRenders : Operator → List ℕ → List (List ℕ) → Members → (List ℕ → Meaning) → Meaning
BindingRenders operator key names ms Member scopes n o = Operand (Member (key_of operator)) scopes n (λ d. BoundOver operator key names ms Member d scopes) o

abbrev pub FormRenders : Form → Meaning → Members → (List ℕ → Meaning) → (List ℕ → List ℕ → Meaning) → Meaning
FormRenders plain Plain ms Member Branch scopes n o = Plain scopes n o
FormRenders (faulty f) Plain ms Member Branch scopes n o = o ≡ faulted f []
FormRenders (alone operator) Plain ms Member Branch scopes n o = AloneRenders operator ms Member Branch scopes n o
FormRenders (binding operator key names) Plain ms Member Branch scopes n o = BindingRenders operator key names ms Member scopes n o

-- below a step of the pointer
abbrev pub Under : List ℕ → (Outcome (Option Document) → Type 0) → Outcome (Option Document) → Type 0
Under step Is o = (p : Outcome (Option Document)) × Is p × (o ≡ under step p)

abbrev mutual
  pub Renders : Document → Meaning
  Renders null scopes n o = o ≡ pay n 1 (Some null)
  Renders (boolean b) scopes n o = o ≡ pay n 1 (Some (boolean b))
  Renders (whole z) scopes n o = o ≡ pay n 1 (Some (whole z))
  Renders (text bs) scopes n o = TextRenders bs scopes n o
  Renders (array ds) scopes n o = After (ItemsRender 0 [] ds scopes n) (λ es m p. p ≡ pay m (1 + length (listed ds)) (Some (array (items_of es)))) o
  Renders (object ms) scopes n o = (form : Form) × IsForm ms form × FormRenders form (λ scopes n. After (ValuesRender [] ms scopes n) (λ vs. KeysRender (length (keys_of ms)) no_members vs scopes)) ms (λ key. MemberRenders key ms) (λ key inner. BranchRenders key inner ms) scopes n o

  -- what the items give in turn, behind what those before them gave, without what is removed
  pub ItemsRender : ℕ → List Document → Items → List Document → ℕ → Outcome (List Document) → Type 0
  ItemsRender i done no_items scopes n o = o ≡ given done n
  ItemsRender i done (item d ds) scopes n o = After (Under (decimal i) (Renders d scopes n)) (λ found m. ItemsRender (i + 1) (done ++ kept found) ds scopes m) o

  -- the values of a map in turn, at their keys
  pub ValuesRender : List (List ℕ × Document) → Members → List Document → ℕ → Outcome (List (List ℕ × Document)) → Type 0
  ValuesRender done no_members scopes n o = o ≡ given done n
  ValuesRender done (member k d ms) scopes n o = After (Under (escaped k) (Renders d scopes n)) (λ found m. ValuesRender (done ++ kept_at k found) ms scopes m) o

  -- what stands at a key; where nothing does, that is removed
  pub MemberRenders : List ℕ → Members → Meaning
  MemberRenders key no_members scopes n o = o ≡ given None n
  MemberRenders key (member k d ms) scopes n o = MatchBool (is_eq (slice_cmp nat_cmp key k)) (Under (escaped key) (Renders d scopes n) o) (MemberRenders key ms scopes n o)

  -- what stands at a key of the map that stands at a key
  pub BranchRenders : List ℕ → List ℕ → Members → Meaning
  BranchRenders key inner no_members scopes n o = o ≡ given None n
  BranchRenders key inner (member k d ms) scopes n o = MatchBool (is_eq (slice_cmp nat_cmp key k)) (Under (escaped key) (InnerRenders inner d scopes n) o) (BranchRenders key inner ms scopes n o)

  pub InnerRenders : List ℕ → Document → Meaning
  InnerRenders inner (object ms) scopes n o = MemberRenders inner ms scopes n o
  InnerRenders inner _ scopes n o = o ≡ given None n

-- the whole template, where the context is a map of names; what is removed is null
abbrev pub IsRendered : Document → Document → Outcome Document → Type 0
IsRendered template (object ms) o = MatchBool (list_all is_name (keys_of ms)) (Operand (Renders template) (object ms ∷ []) 0 (λ d n p. p ≡ given d n) o) (o ≡ faulted BadContext [])
IsRendered template _ o = o ≡ faulted BadContext []
