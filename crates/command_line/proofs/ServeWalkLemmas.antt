-- How `serve` goes through its words: what is held, one word further, and the end.
use Rattle.std.proofs.Common.{◌≡◌, ◌∙◌, ℕ, Bool, append-nil, fold, is_some, map, true, false, cond, refl, ap, ap₂, List, [], ◌∷◌, ◌++◌, Option, Some, None, codes, option_map, option_and_then}
use Rattle.std.specs.Prelude.{◌||◌, ◌&&◌, not, find, slice_get, unwrap_or}
use Rattle.std.specs.Option.{option_map_or}
use Rattle.std.specs.Str.{bytes_eq}
use Rattle.std.proofs.lemmas.Bool.{or_parts}
use Rattle.clap.specs.Words.{Kinds, Row, Rule, Shape, Text, first_of}
use Rattle.clap.specs.Facts.{explicit_source}
use Rattle.clap.specs.Faults.{check_fault, default_fault, defaults_fault, given_default_fault, settle_fault, turn_fault, use_fault, walk_fault}
use Rattle.clap.specs.Kinds.{check_kinds, or_else}
use Rattle.clap.specs.Simple.{built_leaf, filled, inherited, with_index}
use Rattle.clap.specs.Takes.{is_given}
use Rattle.clap.specs.Walk.{Held, Waiting, Walk, arg_by_id, at_row, default_rows, finished, has_row, is_empty, more_values, reading_by, settled, used, used_by_id, walked, with_default, with_values, without}
use Rattle.clap.proofs.OnLiterals.{clap_on_literals}
use Rattle.clap.specs.declared.error.ErrorKind.TheVariants.{ArgumentConflict}
use Rattle.clap.specs.declared.parser.matches.ValueSource.TheVariants.{CommandLine}
use Rattle.command_line.proofs.FaultLemmas.{or_left}
use Rattle.command_line.specs.ServeForms.{Given, is_named, said}
use Rattle.command_line.specs.Service.{connections_said, workers_said}
use Rattle.command_line.specs.Words.{farm_app, farm_argument, serve_app, serve_in}
use Rattle.command_line.specs.declared.command.Command.{Command}
use Rattle.command_line.specs.declared.command.Command.TheVariants.{OverFarm}
use Rattle.command_line.specs.declared.command.Work.TheVariants.{Serve}
use Rattle.command_line.specs.declared.service.Service.{Service}

-- ---- its words, from any place in them

abbrev pub leaf : Shape
leaf = built_leaf (inherited farm_app.top serve_app.top)

abbrev pub args : List Rule
args = leaf.rules

-- the faults at the end, of what is held and settled
abbrev settled_fault : Held → Kinds
settled_fault h = or_else (defaults_fault h.rows args) (check_fault leaf (fold with_default h.rows args) false)

abbrev pub end_fault : Held → Kinds
end_fault h = or_else (settle_fault args false h) (settled_fault (settled args h))

abbrev pub end_of : Walk → List Text → Held
end_of w words = (fold (walked args []) w words).held

abbrev pub faults : Walk → List Text → Kinds
faults w words = or_else (walk_fault leaf [] w words) (end_fault (end_of w words))

abbrev pub found : Walk → List Text → Option Command
found w words = serve_in (finished args (end_of w words))

-- what words are read as that begin there
abbrev pub reads : Walk → List Text → Option Command
reads w words = cond (is_empty (faults w words)) (found w words) None

-- a word that fits goes on
pub steps : (w v : Walk) (word : Text) (rest : List Text) → turn_fault leaf [] w word ≡ [] → walked args [] w word ≡ v → reads w (word ∷ rest) ≡ reads v rest
unfolding walk_fault
steps w v word rest none goes =
    let u : Walk = walked args [] w word in
    ap (λ (k : Kinds). cond (is_empty (or_else (or_else k (walk_fault leaf [] u rest)) (end_fault (end_of u rest)))) (found u rest) None) none ∙ ap (λ (x : Walk). reads x rest) goes

-- one that does not is the end
pub fails : (w : Walk) (word : Text) (rest : List Text) → is_empty (turn_fault leaf [] w word) ≡ false → reads w (word ∷ rest) ≡ None
unfolding walk_fault
fails w word rest bad =
    let u : Walk = walked args [] w word in
    ap (λ (b : Bool). cond b (found u rest) None)
    (or_left (or_else (turn_fault leaf [] w word) (walk_fault leaf [] u rest)) (end_fault (end_of u rest)) (or_left (turn_fault leaf [] w word) (walk_fault leaf [] u rest) bad))

-- ---- what is held

abbrev pub held : List Row → Option (Text × List Text) → Held
held rows pending = record { rows = rows; pending = pending; skip = 0 }

-- the walk with this held, where the farm file was given or not
abbrev pub stands : Held → Waiting → Bool → Bool → Walk
stands h waiting given is_trailing = record { held = h; waiting = waiting; position = cond given 2 1; is_trailing = is_trailing; stopped = None }

abbrev pub farm_id : Text
farm_id = codes "FARM"

abbrev pub farm_rule : Rule
farm_rule = with_index 1 (filled farm_argument)

-- the row of what was given
abbrev pub row_for : Given → Row
row_for g = record { id = g.0; values = g.1 ∷ []; count = None; source = Some CommandLine; reading = reading_by farm_rule }

abbrev pub rows_for : List Given → List Row
rows_for = map row_for

pub named_row : (id : Text) (given : List Given) → has_row id (rows_for given) ≡ is_named id given
named_row id [] = refl
named_row id (g ∷ more) = ap (λ (b : Bool). bytes_eq g.0 id || b) (named_row id more)

given_row : (id : Text) (given : List Given) → is_given id (rows_for given) ≡ is_some (said id given)
given_row id [] = refl
given_row id (g ∷ more) = go (bytes_eq g.0 id) (given_row id more)
  where
    go : (b : Bool) → is_given id (rows_for more) ≡ is_some (said id more) → option_map_or (λ (r : Row). explicit_source r.source) (cond b (Some (row_for g)) (find (λ (r : Row). bytes_eq r.id id) (rows_for more))) false
        ≡ is_some (cond b (Some g.1) (said id more))
    go true rest = refl
    go false rest = rest

first_row : (id : Text) (given : List Given) → first_of id (rows_for given) ≡ said id given
first_row id [] = refl
first_row id (g ∷ more) = go (bytes_eq g.0 id) (first_row id more)
  where
    go : (b : Bool) → first_of id (rows_for more) ≡ said id more → option_and_then (λ (r : Row). slice_get r.values 0) (cond b (Some (row_for g)) (find (λ (r : Row). bytes_eq r.id id) (rows_for more))) ≡ cond b (Some g.1) (said id more)
    go true rest = refl
    go false rest = rest

-- a row of a name that none has stands at the end
row_apart : (id : Text) (change : Row → List Row) (missing : List Row) (given : List Given) → is_named id given ≡ false → at_row id change missing (rows_for given) ≡ rows_for given ++ missing
row_apart id change missing [] none = refl
row_apart id change missing (g ∷ more) none =
    let parts = or_parts (bytes_eq g.0 id) (is_named id more) none in
    ap (λ (b : Bool). cond b (change (row_for g) ++ rows_for more) (row_for g ∷ at_row id change missing (rows_for more))) parts.0
    ∙ ap (λ (rows : List Row). row_for g ∷ rows) (row_apart id change missing more parts.1)

rows_more : (given : List Given) (g : Given) → rows_for given ++ row_for g ∷ [] ≡ rows_for (given ++ g ∷ [])
rows_more [] g = refl
rows_more (x ∷ given) g = ap (λ (rows : List Row). row_for x ∷ rows) (rows_more given g)

-- the rows with one more that is given
abbrev pub with_one : Given → List Row → List Row
with_one g rows = with_values g.0 (reading_by farm_rule) CommandLine (g.1 ∷ []) (without g.0 rows)

pub one_more : (g : Given) (given : List Given) → is_named g.0 given ≡ false → with_one g (rows_for given) ≡ rows_for (given ++ g ∷ [])
one_more g given none =
    ap (λ (rows : List Row). with_values g.0 (reading_by farm_rule) CommandLine (g.1 ∷ []) rows) (row_apart g.0 (λ _. []) [] given none ∙ append-nil (rows_for given))
    ∙ (row_apart g.0 (more_values CommandLine (g.1 ∷ [])) (row_for g ∷ []) given none ∙ rows_more given g)

-- ---- what a rule says of its uses

pub record IsRule (rule : Rule) (id : Text) : Type 0 where
  pub by_id : arg_by_id args id ≡ Some rule
  pub uses : (value : Text) (rows : List Row) → used rule (value ∷ []) rows ≡ with_one (id, value) rows
  pub use_free : (value : Text) (rows : List Row) → has_row id rows ≡ false → use_fault false rule (value ∷ []) rows ≡ []
  pub use_taken : (value : Text) (rows : List Row) → has_row id rows ≡ true → is_empty (use_fault false rule (value ∷ []) rows) ≡ false
  pub use_none : (rows : List Row) → is_empty (use_fault false rule [] rows) ≡ false

abbrev pub again : Bool → Kinds
again b = or_else (cond (b && not false) (ArgumentConflict ∷ []) []) []

pub farm_is : IsRule farm_rule farm_id
unfolding clap_on_literals
farm_is = record { by_id = refl; uses = λ value rows. refl; use_free = λ value rows e. ap again e; use_taken = λ value rows e. ap (λ (b : Bool). is_empty (again b)) e; use_none = λ rows. refl }

-- what is held comes to what was given, once its last value is used
abbrev pub Settles : List Row → Option (Text × List Text) → List Given → Type 0
Settles rows pending given = (settle_fault args false (held rows pending) ≡ []) × (settled args (held rows pending) ≡ held (rows_for given) None)

pub nothing_pends : (given : List Given) → Settles (rows_for given) None given
nothing_pends given = (refl, refl)

pub one_pends : (rule : Rule) (g : Given) (given : List Given) → IsRule rule g.0 → is_named g.0 given ≡ false → Settles (rows_for given) (Some (g.0, g.1 ∷ [])) (given ++ g ∷ [])
one_pends rule g given is none = (
  ap (λ (o : Option Rule). option_map_or (λ (a : Rule). use_fault false a (g.1 ∷ []) (rows_for given)) o []) is.by_id ∙ is.use_free g.1 (rows_for given) (named_row g.0 given ∙ none),
  ap (λ (rows : List Row). held rows None) (ap (λ (o : Option Rule). used_by_id o (g.1 ∷ []) (rows_for given)) is.by_id ∙ (is.uses g.1 (rows_for given) ∙ one_more g given none)),
)

-- a second value does not fit
pub second_bad : (rule : Rule) (g : Given) (given : List Given) → IsRule rule g.0 → is_named g.0 given ≡ true → is_empty (settle_fault args false (held (rows_for given) (Some (g.0, g.1 ∷ [])))) ≡ false
second_bad rule g given is has =
    ap (λ (o : Option Rule). is_empty (option_map_or (λ (a : Rule). use_fault false a (g.1 ∷ []) (rows_for given)) o [])) is.by_id
    ∙ is.use_taken g.1 (rows_for given) (named_row g.0 given ∙ has)

-- and no value neither
pub none_bad : (rule : Rule) (id : Text) (rows : List Row) → IsRule rule id → is_empty (settle_fault args false (held rows (Some (id, [])))) ≡ false
none_bad rule id rows is = ap (λ (o : Option Rule). is_empty (option_map_or (λ (a : Rule). use_fault false a [] rows) o [])) is.by_id ∙ is.use_none rows

-- ---- the end

same : {X : Type 0} (b : Bool) (x : X) → cond b x x ≡ x
same true x = refl
same false x = refl

or_true : (b : Bool) → (b || true) ≡ true
or_true true = refl
or_true false = refl

no_default : (rows : List Row) (rule : Rule) → rule.defaults ≡ [] → with_default rows rule ≡ rows
no_default rows rule none = ap (λ (d : List Text). cond (has_row rule.id rows) rows (default_rows rule.id (reading_by rule) d rows)) none ∙ same (has_row rule.id rows) rows

no_default_fault : (rows : List Row) (rule : Rule) → is_empty rule.defaults ≡ true → default_fault rows rule ≡ []
no_default_fault rows rule none = ap (λ (b : Bool). cond b [] (given_default_fault rule rule.defaults)) (ap (λ (b : Bool). has_row rule.id rows || b) none ∙ or_true (has_row rule.id rows))

abbrev AreWithout : List Rule → Type 0
AreWithout [] = Unit {0}
AreWithout (rule ∷ more) = (rule.defaults ≡ []) × AreWithout more

no_defaults : (rows : List Row) (rules : List Rule) → AreWithout rules → fold with_default rows rules ≡ rows
no_defaults rows [] none = refl
no_defaults rows (rule ∷ more) none = ap (λ (r : List Row). fold with_default r more) (no_default rows rule none.0) ∙ no_defaults rows more none.1

no_default_faults : (rows : List Row) (rules : List Rule) → AreWithout rules → defaults_fault rows rules ≡ []
unfolding defaults_fault
no_default_faults rows [] none = refl
no_default_faults rows (rule ∷ more) none =
    ap (λ (k : Kinds). or_else k (defaults_fault (with_default rows rule) more)) (no_default_fault rows rule (ap is_empty none.0))
    ∙ (ap (λ (r : List Row). defaults_fault r more) (no_default rows rule none.0) ∙ no_default_faults rows more none.1)

args_without : AreWithout args
unfolding clap_on_literals
args_without = (refl, (refl, (refl, (refl, (refl, (refl, tt))))))

-- the service over what is said of each name
abbrev pub service_of : Option Text → Option Text → Option Text → Option Text → Option Service
service_of disk listen workers connections =
    option_and_then (λ (w : ℕ). option_map (λ (c : ℕ). record { disk = unwrap_or disk []; listen = unwrap_or listen []; workers = w; connections = c }) (connections_said connections)) (workers_said workers)

-- the command, where what has to be said is
abbrev told : Bool → Bool → Bool → Option Text → Option Text → Option Text → Option Text → Option Text → Option Command
told is_farm is_disk is_listen farm disk listen workers connections =
    cond (is_empty (check_kinds false false (not is_farm || (not is_disk || (not is_listen || false)))))
    (option_and_then (λ (f : Text). option_map (λ (s : Service). OverFarm f (Serve s)) (service_of disk listen workers connections)) farm) None

abbrev pub command_of : Option Text → Option Text → Option Text → Option Text → Option Text → Option Command
command_of farm disk listen workers connections = told (is_some farm) (is_some disk) (is_some listen) farm disk listen workers connections

-- the command of what was given
abbrev pub ends : List Given → Option Command
ends given = command_of (said farm_id given) (said (codes "disk") given) (said (codes "listen") given) (said (codes "workers") given) (said (codes "connections") given)

rows_told : (rows : List Row) → cond (is_empty (check_fault leaf rows false)) (serve_in rows) None
    ≡ told (is_given farm_id rows) (is_given (codes "disk") rows) (is_given (codes "listen") rows) (first_of farm_id rows) (first_of (codes "disk") rows) (first_of (codes "listen") rows)
    (first_of (codes "workers") rows) (first_of (codes "connections") rows)
unfolding clap_on_literals
rows_told rows = refl

given_told : (given : List Given) → cond (is_empty (check_fault leaf (rows_for given) false)) (serve_in (rows_for given)) None ≡ ends given
given_told given =
    let f : Option Text = said farm_id given in
    let d : Option Text = said (codes "disk") given in
    let l : Option Text = said (codes "listen") given in
    let w : Option Text = said (codes "workers") given in
    let rows : List Row = rows_for given in
    let of : Text → Option Text = λ (id : Text). first_of id rows in
    let is_d : Bool = is_given (codes "disk") rows in
    let is_l : Bool = is_given (codes "listen") rows in
    rows_told rows
    ∙ (ap (λ (b : Bool). told b is_d is_l (of farm_id) (of (codes "disk")) (of (codes "listen")) (of (codes "workers")) (of (codes "connections"))) (given_row farm_id given)
    ∙ (ap (λ (b : Bool). told (is_some f) b is_l (of farm_id) (of (codes "disk")) (of (codes "listen")) (of (codes "workers")) (of (codes "connections"))) (given_row (codes "disk") given)
    ∙ (ap (λ (b : Bool). told (is_some f) (is_some d) b (of farm_id) (of (codes "disk")) (of (codes "listen")) (of (codes "workers")) (of (codes "connections"))) (given_row (codes "listen") given)
    ∙ (ap (λ (o : Option Text). told (is_some f) (is_some d) (is_some l) o (of (codes "disk")) (of (codes "listen")) (of (codes "workers")) (of (codes "connections"))) (first_row farm_id given)
    ∙ (ap (λ (o : Option Text). told (is_some f) (is_some d) (is_some l) f o (of (codes "listen")) (of (codes "workers")) (of (codes "connections"))) (first_row (codes "disk") given)
    ∙ (ap (λ (o : Option Text). told (is_some f) (is_some d) (is_some l) f d o (of (codes "workers")) (of (codes "connections"))) (first_row (codes "listen") given)
    ∙ (ap (λ (o : Option Text). told (is_some f) (is_some d) (is_some l) f d l o (of (codes "connections"))) (first_row (codes "workers") given)
    ∙ ap (λ (o : Option Text). told (is_some f) (is_some d) (is_some l) f d l w o) (first_row (codes "connections") given))))))))

-- words that end there are read as the command of what was given
pub end_read : (rows : List Row) (pending : Option (Text × List Text)) (waiting : Waiting) (farm is_trailing : Bool) (given : List Given) → Settles rows pending given
    → reads (stands (held rows pending) waiting farm is_trailing) [] ≡ ends given
unfolding walk_fault
end_read rows pending waiting farm is_trailing given settles =
    ap₂ (λ (k : Kinds) (h : Held). cond (is_empty (or_else k (settled_fault h))) (serve_in (fold with_default h.rows args)) None) settles.0 settles.1
    ∙ (ap₂ (λ (k : Kinds) (r : List Row). cond (is_empty (or_else k (check_fault leaf r false))) (serve_in r) None) (no_default_faults (rows_for given) args args_without) (no_defaults (rows_for given) args args_without)
    ∙ given_told given)

-- where what pends does not fit, they are not read
pub end_unread : (rows : List Row) (pending : Option (Text × List Text)) (waiting : Waiting) (farm is_trailing : Bool) → is_empty (settle_fault args false (held rows pending)) ≡ false
    → reads (stands (held rows pending) waiting farm is_trailing) [] ≡ None
unfolding walk_fault
end_unread rows pending waiting farm is_trailing bad =
    let h : Held = held rows pending in
    ap (λ (b : Bool). cond b (serve_in (finished args h)) None) (or_left (settle_fault args false h) (settled_fault (settled args h)) bad)
