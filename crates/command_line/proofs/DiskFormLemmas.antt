-- Which words are read as work over a farm, by a command that takes `--disk`.
use Rattle.std.proofs.Common.{◌≡◌, ◌⊎◌, ◌∙◌, ◌+◌, ℕ, Bool, ap₂, add-one, one-add, take, true, false, suc, cond, refl, sym, ap, subst, arith, inl, inr, List, [], ◌∷◌, ◌++◌, Option, Some, None, codes, fold, length, option_map, slice_get}
use Rattle.std.specs.Prelude.{◌==◌, ◌||◌, IsUtf8, drop, encode_utf8}
use Rattle.std.specs.List.{All, before_first, after_first, position_or_len}
use Rattle.std.proofs.lemmas.Bool.{ne_eqb}
use Rattle.std.proofs.lemmas.Bool.Decides.{Decides-eqb}
use Rattle.std.proofs.lemmas.Slice.Eq.{bytes_eq-Decides}
use Rattle.std.specs.Str.{bytes_eq, chars}
use Rattle.clap.specs.Words.{Kinds, Row, Rule, Shape, Text}
use Rattle.clap.specs.Faults.{bundle_step_fault, check_fault, defaults_fault, flags_fault, long_fault, react_fault, settle_fault, short_fault, turn_fault, use_fault, walk_fault, word_fault}
use Rattle.clap.specs.Kinds.{or_else}
use Rattle.clap.specs.Lexer.{has_byte, name_and_value}
use Rattle.clap.specs.Simple.{built_leaf, filled, help_rule, inherited, with_index}
use Rattle.clap.specs.Walk.{Held, Waiting, Walk, finished, idle, is_empty, option, reacted, settled, settled_rows, walked}
use Rattle.clap.proofs.OnLiterals.{clap_on_literals}
use Rattle.command_line.proofs.FlagLemmas.{IsFlag, value_cases, word_kind}
use Rattle.command_line.specs.Forms.{Gives, GivesBoth, GivesDisk, GivesValue}
use Rattle.command_line.specs.Options.{EndsOptions, IsValue}
use Rattle.command_line.specs.Words.{disk_option, farm_app, farm_argument, with_disk, work_in, work_named}
use Rattle.command_line.specs.declared.command.Command.{Command}
use Rattle.command_line.specs.declared.command.Command.TheVariants.{OverFarm, Sign, Bulk, Render}
use Rattle.command_line.specs.declared.command.Work.{Work}

-- ---- a command's words, from any place in them

abbrev leaf : Text → Shape
leaf name = built_leaf (inherited farm_app.top (with_disk name).top)

abbrev pub args : Text → List Rule
args name = (leaf name).rules

abbrev end_fault : Text → Held → Kinds
end_fault name h =
    or_else (settle_fault (args name) false h) (or_else (defaults_fault (settled (args name) h).rows (args name)) (check_fault (leaf name) (finished (args name) h) false))

abbrev pub end_of : Text → Walk → List Text → Held
end_of name w words = (fold (walked (args name) []) w words).held

abbrev pub faults : Text → Walk → List Text → Kinds
faults name w words = or_else (walk_fault (leaf name) [] w words) (end_fault name (end_of name w words))

abbrev pub found : Text → Walk → List Text → Option Command
found name w words = work_in name (finished (args name) (end_of name w words))

-- what words are read as that begin there
abbrev pub reads : Text → Walk → List Text → Option Command
reads name w words = cond (is_empty (faults name w words)) (found name w words) None

none_some : (command : Command) → None ≡ Some command → ⊥
none_some command e = cc

or_left : (a b : Kinds) → is_empty a ≡ false → is_empty (or_else a b) ≡ false
or_left [] b e = cc
or_left (k ∷ ks) b e = e

or_right : (a b : Kinds) → is_empty b ≡ false → is_empty (or_else a b) ≡ false
or_right [] b e = e
or_right (k ∷ ks) b e = some_kind k ks
  where
    some_kind : (k : _) (ks : Kinds) → is_empty (k ∷ ks) ≡ false
    some_kind k ks = ne_eqb _ _ (λ same. omega arith)

-- a word that fits goes on
steps : (name : Text) (w v : Walk) (word : Text) (rest : List Text) → turn_fault (leaf name) [] w word ≡ [] → walked (args name) [] w word ≡ v → reads name w (word ∷ rest) ≡ reads name v rest
unfolding walk_fault
steps name w v word rest none goes =
    let u : Walk = walked (args name) [] w word in
    ap (λ (k : Kinds). cond (is_empty (or_else (or_else k (walk_fault (leaf name) [] u rest)) (end_fault name (end_of name u rest)))) (found name u rest) None) none
    ∙ ap (λ (x : Walk). reads name x rest) goes

-- one that does not is the end
fails : (name : Text) (w : Walk) (word : Text) (rest : List Text) → is_empty (turn_fault (leaf name) [] w word) ≡ false → reads name w (word ∷ rest) ≡ None
unfolding walk_fault
fails name w word rest bad =
    let u : Walk = walked (args name) [] w word in
    ap (λ (b : Bool). cond b (found name u rest) None)
    (or_left (or_else (turn_fault (leaf name) [] w word) (walk_fault (leaf name) [] u rest)) (end_fault name (end_of name u rest)) (or_left (turn_fault (leaf name) [] w word) (walk_fault (leaf name) [] u rest) bad))

-- ---- where a walk stands

abbrev held : List Row → Option (Text × List Text) → Held
held rows pending = record { rows = rows; pending = pending; skip = 0 }

abbrev stands : Held → Waiting → ℕ → Bool → Walk
stands h waiting position is_trailing = record { held = h; waiting = waiting; position = position; is_trailing = is_trailing; stopped = None }

abbrev disk_id : Text
disk_id = codes "disk"

abbrev farm_id : Text
farm_id = codes "FARM"

abbrev disk_rule : Rule
disk_rule = filled disk_option

abbrev farm_rule : Rule
farm_rule = with_index 1 (filled farm_argument)

abbrev help : Rule
help = filled help_rule

-- the rows after a value more
abbrev with_value : Text → Text → Text → List Row → List Row
with_value name id value rows = settled_rows (args name) (Some (id, value ∷ [])) rows

-- nothing was given yet; a value of `--disk` is wanted; it was given, as a word of its own or behind `=`
abbrev pub start : Walk
start = stands (held [] None) idle 1 false

abbrev wants_disk : List Row → ℕ → Walk
wants_disk rows position = stands (held rows (Some (disk_id, []))) (option disk_id) position false

abbrev has_disk : List Row → ℕ → Text → Walk
has_disk rows position disk = stands (held rows (Some (disk_id, disk ∷ []))) idle position false

abbrev has_attached : Text → List Row → ℕ → Text → Walk
has_attached name rows position disk = stands (held (with_value name disk_id disk rows) None) idle position false

-- the farm file was given
abbrev has_farm : List Row → Text → Walk
has_farm rows farm = stands (held rows (Some (farm_id, farm ∷ []))) idle 2 false

-- ---- flags

-- the word gives `--disk`, with a value or without
abbrev IsDiskFlag : Text → Type 0
IsDiskFlag w = (w ≡ codes "--disk") ⊎ ((v : Text) × (w ≡ codes "--disk=" ++ v))

-- a flag of another name, or of one character
abbrev IsOther : Text → Type 0
IsOther w = ((z : ℕ) × (zs : Text) × (w ≡ 45 ∷ 45 ∷ z ∷ zs) × (bytes_eq disk_id (name_and_value (z ∷ zs)).0 ≡ false))
    ⊎ ((y : ℕ) × (ys : Text) × (x : ℕ) × (w ≡ 45 ∷ y ∷ ys) × ((y == 45) ≡ false) × (slice_get (chars (y ∷ ys)) 0 ≡ Some x))

-- the first `=` of a text that begins with another byte
longer : (x : ℕ) (xs : Text) → (x == 61) ≡ false → position_or_len (λ y. y == 61) (x ∷ xs) ≡ suc (position_or_len (λ y. y == 61) xs)
longer x xs e = simp e (one-add (position_or_len (λ y. y == 61) xs))

front_longer : (x : ℕ) (xs : Text) → (x == 61) ≡ false → before_first (λ y. y == 61) (x ∷ xs) ≡ x ∷ before_first (λ y. y == 61) xs
front_longer x xs e = ap (λ (n : ℕ). take n (x ∷ xs)) (longer x xs e)

back_longer : (x : ℕ) (xs : Text) → (x == 61) ≡ false → after_first (λ y. y == 61) (x ∷ xs) ≡ after_first (λ y. y == 61) xs
back_longer x xs e =
    let m : ℕ = position_or_len (λ y. y == 61) xs in
    ap (λ (n : ℕ). drop (n + 1) (x ∷ xs)) (longer x xs e) ∙ (ap (λ (n : ℕ). drop n (x ∷ xs)) (add-one (suc m)) ∙ sym (ap (λ (n : ℕ). drop n xs) (add-one m)))

-- a text is what stands before its first `=`, and that, and what stands behind it; or it has none
pub cut_once : (text : Text) → has_byte 61 text ≡ true → text ≡ before_first (λ x. x == 61) text ++ 61 ∷ after_first (λ x. x == 61) text
cut_once [] has = cc
cut_once (x ∷ xs) has = go (x == 61) refl (cut_once xs)
  where
    go : (b : Bool) → (x == 61) ≡ b → (has_byte 61 xs ≡ true → xs ≡ before_first (λ x. x == 61) xs ++ 61 ∷ after_first (λ x. x == 61) xs)
        → x ∷ xs ≡ before_first (λ x. x == 61) (x ∷ xs) ++ 61 ∷ after_first (λ x. x == 61) (x ∷ xs)
    go true e rest = let is : x ≡ 61 = (Decides-eqb x 61).0 e in simp e (ap (λ (y : ℕ). y ∷ xs) is)
    go false e rest =
        ap (λ (ys : Text). x ∷ ys) (rest (simp e at has)) ∙ sym (ap₂ (λ (a b : Text). a ++ 61 ∷ b) (front_longer x xs e) (back_longer x xs e))

pub uncut : (text : Text) → has_byte 61 text ≡ false → before_first (λ x. x == 61) text ≡ text
uncut [] none = refl
uncut (x ∷ xs) none = go (x == 61) refl (uncut xs)
  where
    go : (b : Bool) → (x == 61) ≡ b → (has_byte 61 xs ≡ false → before_first (λ x. x == 61) xs ≡ xs) → before_first (λ x. x == 61) (x ∷ xs) ≡ x ∷ xs
    go true e rest = let some : has_byte 61 (x ∷ xs) ≡ true = simp e refl in cc
    go false e rest = front_longer x xs e ∙ ap (λ (ys : Text). x ∷ ys) (rest (simp e at none))

long_kind : (text : Text) → bytes_eq disk_id (name_and_value text).0 ≡ true → (b : Bool) → has_byte 61 text ≡ b → IsDiskFlag (45 ∷ 45 ∷ text)
long_kind text same true has =
    let is : disk_id ≡ before_first (λ x. x == 61) text = (bytes_eq-Decides disk_id (name_and_value text).0).0 same in
    inr (after_first (λ x. x == 61) text, ap (λ (t : Text). 45 ∷ 45 ∷ t) (cut_once text has ∙ ap (λ (t : Text). t ++ 61 ∷ after_first (λ x. x == 61) text) (sym is)))
long_kind text same false none =
    let is : disk_id ≡ before_first (λ x. x == 61) text = (bytes_eq-Decides disk_id (name_and_value text).0).0 same in
    inl (ap (λ (t : Text). 45 ∷ 45 ∷ t) (sym (uncut text none) ∙ sym is))

flag_kind : (w : Text) → IsFlag w → IsDiskFlag w ⊎ IsOther w
flag_kind w (inr p) = inr (inr p)
flag_kind w (inl (z, zs, is)) = go (bytes_eq disk_id (name_and_value (z ∷ zs)).0) refl
  where
    go : (b : Bool) → bytes_eq disk_id (name_and_value (z ∷ zs)).0 ≡ b → IsDiskFlag w ⊎ IsOther w
    go true same = inl (subst IsDiskFlag (sym is) (long_kind (z ∷ zs) same (has_byte 61 (z ∷ zs)) refl))
    go false other = inr (inl (z, zs, is, other))

-- a flag of another name is no flag of the command, or asks for help
long_other : (c : List Rule) (b : Bool) (v : Option Text) (h : Held) → is_empty (long_fault c false (cond b (Some help) None) v h) ≡ false
long_other c true (Some v) h = refl
long_other c true None h = or_right (settle_fault c false h) (use_fault false help [] (settled c h).rows) refl
long_other c false v h = refl

short_other : (c : List Rule) (b : Bool) (rest : Text) (h : Held) (next : Held → Kinds) → is_empty (short_fault c false (cond b (Some help) None) rest h next) ≡ false
short_other c true rest h next =
    or_left (react_fault c false help [] h) (next (reacted c help [] h)) (or_right (settle_fault c false h) (use_fault false help [] (settled c h).rows) refl)
short_other c false rest h next = refl

other_word : (name : Text) (rows : List Row) (pending : Option (Text × List Text)) (w : Text) → IsOther w → is_empty (word_fault (leaf name) [] false idle w (held rows pending)) ≡ false
unfolding clap_on_literals
other_word name rows pending w (inl p) =
    let met = name_and_value (p.0 ∷ p.1) in
    subst (λ a. is_empty (word_fault (leaf name) [] false idle a (held rows pending)) ≡ false) (sym p.2)
    (simp p.3 (long_other (args name) (bytes_eq (codes "help") met.0 || false) met.1 (held rows pending)))
other_word name rows pending w (inr p) =
    let flags : Text = p.0 ∷ p.1 in
    let next = flags_fault (args name) false (length p.1) in
    let rest : Text = drop (length (encode_utf8 p.2)) flags in
    subst (λ a. is_empty (word_fault (leaf name) [] false idle a (held rows pending)) ≡ false) (sym p.3) (simp p.4
    (subst (λ o. is_empty (bundle_step_fault (args name) false o flags 0 (held rows pending) next) ≡ false) (sym p.5)
    (short_other (args name) (104 == p.2 || false) rest (held rows pending) (next rest 0))))

-- ---- where what is pending does not fit, the words fail, whatever comes

abbrev misuse : List Text → List Row → Kinds
misuse values rows = use_fault false disk_rule values rows

abbrev doomed_at : List Row → List Text → Waiting → Bool → Bool → Walk
doomed_at rows values waiting given is_trailing = stands (held rows (Some (disk_id, values))) waiting (cond given 2 1) is_trailing

long_doomed : (c : List Rule) (a b : Bool) (v : Option Text) (h : Held) → is_empty (settle_fault c false h) ≡ false → is_empty (long_fault c false (cond a (Some disk_rule) (cond b (Some help) None)) v h) ≡ false
long_doomed c true b (Some v) h bad = or_left (settle_fault c false h) (use_fault false disk_rule (v ∷ []) (settled c h).rows) bad
long_doomed c true b None h bad = bad
long_doomed c false true (Some v) h bad = refl
long_doomed c false true None h bad = or_left (settle_fault c false h) (use_fault false help [] (settled c h).rows) bad
long_doomed c false false v h bad = refl

-- a flag fails there
flag_doomed_idle : (name : Text) (rows : List Row) (values : List Text) (w : Text) → IsFlag w → is_empty (misuse values rows) ≡ false
    → is_empty (word_fault (leaf name) [] false idle w (held rows (Some (disk_id, values)))) ≡ false
unfolding clap_on_literals
flag_doomed_idle name rows values w (inl p) bad =
    let met = name_and_value (p.0 ∷ p.1) in
    subst (λ a. is_empty (word_fault (leaf name) [] false idle a (held rows (Some (disk_id, values)))) ≡ false) (sym p.2)
    (long_doomed (args name) (bytes_eq disk_id met.0 || false) (bytes_eq (codes "help") met.0 || false) met.1 (held rows (Some (disk_id, values))) bad)
flag_doomed_idle name rows values w (inr p) bad =
    let flags : Text = p.0 ∷ p.1 in
    let next = flags_fault (args name) false (length p.1) in
    let rest : Text = drop (length (encode_utf8 p.2)) flags in
    subst (λ a. is_empty (word_fault (leaf name) [] false idle a (held rows (Some (disk_id, values)))) ≡ false) (sym p.3) (simp p.4
    (subst (λ o. is_empty (bundle_step_fault (args name) false o flags 0 (held rows (Some (disk_id, values))) next) ≡ false) (sym p.5)
    (short_other (args name) (104 == p.2 || false) rest (held rows (Some (disk_id, values))) (next rest 0))))

-- what waits makes no difference to a flag
flag_doomed : (name : Text) (rows : List Row) (values : List Text) (w : Text) → IsFlag w → is_empty (misuse values rows) ≡ false
    → is_empty (word_fault (leaf name) [] false (option disk_id) w (held rows (Some (disk_id, values)))) ≡ false
unfolding clap_on_literals
flag_doomed name rows values w flag bad = flag_doomed_idle name rows values w flag bad

-- behind `--`
doomed_trailing : (name : Text) (rows : List Row) (values : List Text) (waiting : Waiting) (given : Bool) (words : List Text) → is_empty (misuse values rows) ≡ false
    → reads name (doomed_at rows values waiting given true) words ≡ None
unfolding clap_on_literals
doomed_trailing name rows values waiting given [] bad =
    let h : Held = held rows (Some (disk_id, values)) in
    ap (λ (b : Bool). cond b (work_in name (finished (args name) h)) None) (or_left (settle_fault (args name) false h) _ bad)
doomed_trailing name rows values waiting false (w ∷ words) bad = fails name (doomed_at rows values waiting false true) w words bad
doomed_trailing name rows values waiting true (w ∷ words) bad = fails name (doomed_at rows values waiting true true) w words refl

value_doomed : (name : Text) (rows : List Row) (values : List Text) (given : Bool) (w : Text) → IsValue w → is_empty (misuse values rows) ≡ false
    → is_empty (turn_fault (leaf name) [] (doomed_at rows values idle given false) w) ≡ false
unfolding clap_on_literals
value_doomed name rows values false w v bad =
    value_cases (λ a. is_empty (turn_fault (leaf name) [] (doomed_at rows values idle false false) a) ≡ false) bad bad (λ x xs e. simp e bad) w v
value_doomed name rows values true w v bad =
    value_cases (λ a. is_empty (turn_fault (leaf name) [] (doomed_at rows values idle true false) a) ≡ false) refl refl (λ x xs e. simp e) w v

dashes_step : (name : Text) (h : Held) (given : Bool) (words : List Text) → reads name (stands h idle (cond given 2 1) false) (codes "--" ∷ words) ≡ reads name (stands h idle (cond given 2 1) true) words
unfolding clap_on_literals
dashes_step name h given words = steps name (stands h idle (cond given 2 1) false) (stands h idle (cond given 2 1) true) (codes "--") words refl refl

doomed : (name : Text) (rows : List Row) (values : List Text) (given : Bool) (words : List Text) → All IsUtf8 words → is_empty (misuse values rows) ≡ false
    → reads name (doomed_at rows values idle given false) words ≡ None
unfolding clap_on_literals
doomed name rows values given [] utf8 bad =
    let h : Held = held rows (Some (disk_id, values)) in
    ap (λ (b : Bool). cond b (work_in name (finished (args name) h)) None) (or_left (settle_fault (args name) false h) _ bad)
doomed name rows values given (w ∷ words) utf8 bad = elim (word_kind w (utf8 0 [] (omega arith))) [
  | inl v ↦ fails name (doomed_at rows values idle given false) w words (value_doomed name rows values given w v bad)
  | inr (inl dashes) ↦ subst (λ a. reads name (doomed_at rows values idle given false) (a ∷ words) ≡ None) (sym dashes)
      (dashes_step name (held rows (Some (disk_id, values))) given words ∙ doomed_trailing name rows values idle given words bad)
  | inr (inr flag) ↦ fails name (doomed_at rows values idle given false) w words (or_left _ _ (flag_doomed_idle name rows values w flag bad))
]

-- ---- `--disk` without a value in its own word

abbrev wants : List Row → Bool → Walk
wants rows given = wants_disk rows (cond given 2 1)

abbrev has : List Row → Bool → Text → Walk
has rows given disk = has_disk rows (cond given 2 1) disk

-- the next word is its value, or the words fail
abbrev IsWaited : Text → List Row → Bool → List Text → Type 0
IsWaited name rows given words =
    (reads name (wants rows given) words ≡ None)
    ⊎ ((disk : Text) × (more : List Text) × IsValue disk × (words ≡ disk ∷ more) × (reads name (wants rows given) words ≡ reads name (has rows given disk) more))

value_taken : (name : Text) (rows : List Row) (given : Bool) (w : Text) (words : List Text) → IsValue w → reads name (wants rows given) (w ∷ words) ≡ reads name (has rows given w) words
unfolding clap_on_literals
value_taken name rows given w words v =
    value_cases (λ a. reads name (wants rows given) (a ∷ words) ≡ reads name (has rows given a) words)
    (steps name (wants rows given) (has rows given []) [] words refl refl)
    (steps name (wants rows given) (has rows given (45 ∷ [])) (45 ∷ []) words refl refl)
    (λ x xs e. steps name (wants rows given) (has rows given (x ∷ xs)) (x ∷ xs) words (simp e) (simp e)) w v

dashes_wanted : (name : Text) (rows : List Row) (given : Bool) (words : List Text) → reads name (wants rows given) (codes "--" ∷ words) ≡ None
unfolding clap_on_literals
dashes_wanted name rows given words =
    steps name (wants rows given) (doomed_at rows [] (option disk_id) given true) (codes "--") words refl refl ∙ doomed_trailing name rows [] (option disk_id) given words refl

waited : (name : Text) (rows : List Row) (given : Bool) (words : List Text) → All IsUtf8 words → IsWaited name rows given words
unfolding clap_on_literals
waited name rows given [] utf8 = inl refl
waited name rows given (w ∷ words) utf8 = elim (word_kind w (utf8 0 [] (omega arith))) [
  | inl v ↦ inr (w, words, v, refl, value_taken name rows given w words v)
  | inr (inl dashes) ↦ inl (subst (λ a. reads name (wants rows given) (a ∷ words) ≡ None) (sym dashes) (dashes_wanted name rows given words))
  | inr (inr flag) ↦ inl (fails name (wants rows given) w words (or_left _ _ (flag_doomed name rows [] w flag refl)))
]

-- a second one never fits
again : (name : Text) (rows : List Row) (given : Bool) (words : List Text) → All IsUtf8 words → ((disk : Text) → is_empty (misuse (disk ∷ []) rows) ≡ false) → reads name (wants rows given) words ≡ None
again name rows given words utf8 bad = elim (waited name rows given words utf8) [
  | inl none ↦ none
  | inr (disk, more, v, is, goes) ↦ goes ∙ doomed name rows (disk ∷ []) given more (later is) (bad disk)
]
  where
    later : {disk : Text} {more : List Text} → words ≡ disk ∷ more → All IsUtf8 more
    later {disk} {more} is = λ k d below. (subst (λ (l : List Text). All IsUtf8 l) is utf8) (suc k) d (omega arith)

-- the work of a name over a farm file, alone and with a disk
abbrev pub over : Text → Text → Option Text → Option Command
over name farm disk = option_map (λ work. OverFarm farm work) (work_named name disk)

abbrev over_farm : Text → Text → Option Command
over_farm name farm = over name farm None

abbrev over_disk : Text → Text → Text → Option Command
over_disk name farm disk = over name farm (Some disk)

-- ---- the farm file and the disk were given

abbrev farm_rows : Text → Text → List Row
farm_rows name farm = with_value name farm_id farm []

abbrev disk_rows : Text → Text → List Row
disk_rows name disk = with_value name disk_id disk []

-- a flag there fails
flag_again : (name : Text) (rows after : List Row) (pending : Option (Text × List Text)) (given : Bool) (u : Text) (words : List Text) → All IsUtf8 words → IsFlag u
    → ((more : List Text) → reads name (stands (held rows pending) idle (cond given 2 1) false) (codes "--disk" ∷ more) ≡ reads name (wants after given) more)
    → ((disk : Text) → is_empty (misuse (disk ∷ []) after) ≡ false)
    → ((v : Text) → is_empty (turn_fault (leaf name) [] (stands (held rows pending) idle (cond given 2 1) false) (codes "--disk=" ++ v)) ≡ false)
    → reads name (stands (held rows pending) idle (cond given 2 1) false) (u ∷ words) ≡ None
flag_again name rows after pending given u words utf8 flag goes bad attached =
    let w : Walk = stands (held rows pending) idle (cond given 2 1) false in
    elim (flag_kind u flag) [
      | inl (inl is) ↦ subst (λ a. reads name w (a ∷ words) ≡ None) (sym is) (goes words ∙ again name after given words utf8 bad)
      | inl (inr (v, is)) ↦ subst (λ a. reads name w (a ∷ words) ≡ None) (sym is) (fails name w (codes "--disk=" ++ v) words (attached v))
      | inr other ↦ fails name w u words (or_left _ _ (other_word name rows pending u other))
    ]

record IsBoth (name : Text) (w : Walk) (farm disk : Text) : Type 0 where
  ends : reads name w [] ≡ over_disk name farm disk
  dashes : reads name w (codes "--" ∷ []) ≡ over_disk name farm disk
  more : (u : Text) (words : List Text) → reads name w (codes "--" ∷ u ∷ words) ≡ None
  value : (u : Text) (words : List Text) → IsValue u → reads name w (u ∷ words) ≡ None
  flag : (u : Text) (words : List Text) → All IsUtf8 words → IsFlag u → reads name w (u ∷ words) ≡ None

disk_farm : (name disk farm : Text) → IsBoth name (has_farm (disk_rows name disk) farm) farm disk
unfolding clap_on_literals
disk_farm name disk farm =
    let w : Walk = has_farm (disk_rows name disk) farm in
    let after : List Row = with_value name farm_id farm (disk_rows name disk) in
    record {
      ends = refl;
      dashes = refl;
      more = λ u words. refl;
      value = λ u words v. fails name w u words (value_cases (λ a. is_empty (turn_fault (leaf name) [] w a) ≡ false) refl refl (λ x xs e. simp e) u v);
      flag = λ u words utf8 flag. flag_again name (disk_rows name disk) after (Some (farm_id, farm ∷ [])) true u words utf8 flag
          (λ more. steps name w (wants after true) (codes "--disk") more refl refl) (λ d. refl) (λ v. refl);
    }

farm_disk : (name farm disk : Text) → IsBoth name (has_disk (farm_rows name farm) 2 disk) farm disk
unfolding clap_on_literals
farm_disk name farm disk =
    let w : Walk = has_disk (farm_rows name farm) 2 disk in
    let after : List Row = with_value name disk_id disk (farm_rows name farm) in
    record {
      ends = refl;
      dashes = refl;
      more = λ u words. refl;
      value = λ u words v. fails name w u words (value_cases (λ a. is_empty (turn_fault (leaf name) [] w a) ≡ false) refl refl (λ x xs e. simp e) u v);
      flag = λ u words utf8 flag. flag_again name (farm_rows name farm) after (Some (disk_id, disk ∷ [])) true u words utf8 flag
          (λ more. steps name w (wants after true) (codes "--disk") more refl refl) (λ d. refl) (λ v. refl);
    }

farm_attached : (name farm disk : Text) → IsBoth name (has_attached name (farm_rows name farm) 2 disk) farm disk
unfolding clap_on_literals
farm_attached name farm disk =
    let w : Walk = has_attached name (farm_rows name farm) 2 disk in
    let after : List Row = with_value name disk_id disk (farm_rows name farm) in
    record {
      ends = refl;
      dashes = refl;
      more = λ u words. refl;
      value = λ u words v. fails name w u words (value_cases (λ a. is_empty (turn_fault (leaf name) [] w a) ≡ false) refl refl (λ x xs e. simp e) u v);
      flag = λ u words utf8 flag. flag_again name after after None true u words utf8 flag
          (λ more. steps name w (wants after true) (codes "--disk") more refl refl) (λ d. refl) (λ v. refl);
    }

-- ---- the disk alone was given

record IsDisk (name : Text) (w : Walk) (disk : Text) : Type 0 where
  ends : reads name w [] ≡ None
  value : (farm : Text) (words : List Text) → IsValue farm → reads name w (farm ∷ words) ≡ reads name (has_farm (disk_rows name disk) farm) words
  dashes_end : reads name w (codes "--" ∷ []) ≡ None
  dashes : (farm : Text) → reads name w (codes "--" ∷ farm ∷ []) ≡ over_disk name farm disk
  dashes_more : (farm u : Text) (words : List Text) → reads name w (codes "--" ∷ farm ∷ u ∷ words) ≡ None
  flag : (u : Text) (words : List Text) → All IsUtf8 words → IsFlag u → reads name w (u ∷ words) ≡ None

disk_first : (name disk : Text) → IsDisk name (has_disk [] 1 disk) disk
unfolding clap_on_literals
disk_first name disk =
    let w : Walk = has_disk [] 1 disk in
    record {
      ends = refl;
      value = λ farm words v. value_cases (λ a. reads name w (a ∷ words) ≡ reads name (has_farm (disk_rows name disk) a) words)
          (steps name w (has_farm (disk_rows name disk) []) [] words refl refl)
          (steps name w (has_farm (disk_rows name disk) (45 ∷ [])) (45 ∷ []) words refl refl)
          (λ x xs e. steps name w (has_farm (disk_rows name disk) (x ∷ xs)) (x ∷ xs) words (simp e) (simp e)) farm v;
      dashes_end = refl;
      dashes = λ farm. refl;
      dashes_more = λ farm u words. refl;
      flag = λ u words utf8 flag. flag_again name [] (disk_rows name disk) (Some (disk_id, disk ∷ [])) false u words utf8 flag
          (λ more. steps name w (wants (disk_rows name disk) false) (codes "--disk") more refl refl) (λ d. refl) (λ v. refl);
    }

attached_first : (name disk : Text) → IsDisk name (has_attached name [] 1 disk) disk
unfolding clap_on_literals
attached_first name disk =
    let w : Walk = has_attached name [] 1 disk in
    record {
      ends = refl;
      value = λ farm words v. value_cases (λ a. reads name w (a ∷ words) ≡ reads name (has_farm (disk_rows name disk) a) words)
          (steps name w (has_farm (disk_rows name disk) []) [] words refl refl)
          (steps name w (has_farm (disk_rows name disk) (45 ∷ [])) (45 ∷ []) words refl refl)
          (λ x xs e. steps name w (has_farm (disk_rows name disk) (x ∷ xs)) (x ∷ xs) words (simp e) (simp e)) farm v;
      dashes_end = refl;
      dashes = λ farm. refl;
      dashes_more = λ farm u words. refl;
      flag = λ u words utf8 flag. flag_again name (disk_rows name disk) (disk_rows name disk) None false u words utf8 flag
          (λ more. steps name w (wants (disk_rows name disk) false) (codes "--disk") more refl refl) (λ d. refl) (λ v. refl);
    }

-- ---- what words say

-- the words behind the name of a command say what they are read as
abbrev pub Says : Text → Command → List Text → Type 0
Says name (OverFarm farm work) words = (disk : Option Text) × (work_named name disk ≡ Some work) × Gives farm disk words
Says name (Sign signing) words = ⊥
Says name (Bulk load) words = ⊥
Says name Render words = ⊥

given_command : (name farm : Text) (disk : Option Text) (command : Command) (words : List Text) → Gives farm disk words → over name farm disk ≡ Some command → Says name command words
given_command name farm disk command words gives read = go (work_named name disk) refl
  where
    go : (o : Option Work) → work_named name disk ≡ o → Says name command words
    go None none = absurd (none_some command (sym (ap (option_map (λ work. OverFarm farm work)) none) ∙ read))
    go (Some work) is =
        let one : Some (OverFarm farm work) ≡ Some command = sym (ap (option_map (λ work. OverFarm farm work)) is) ∙ read in
        let same : OverFarm farm work ≡ command = cc in
        subst (λ (k : Command). Says name k words) same (disk, is, gives)

farm_command : (name farm : Text) (command : Command) (words : List Text) → GivesValue farm words → over_farm name farm ≡ Some command → Says name command words
farm_command name farm command words gives read = given_command name farm None command words gives read

disk_command : (name farm disk : Text) (command : Command) (words : List Text) → GivesBoth farm disk words → over_disk name farm disk ≡ Some command → Says name command words
disk_command name farm disk command words gives read = given_command name farm (Some disk) command words gives read

unread : {T : Type 0} (name : Text) (w : Walk) (words : List Text) (command : Command) → reads name w words ≡ None → reads name w words ≡ Some command → T
unread name w words command none read = absurd (none_some command (sym none ∙ read))

both_ends : (name : Text) (w : Walk) (farm disk : Text) (words : List Text) (command : Command) → IsBoth name w farm disk → All IsUtf8 words → reads name w words ≡ Some command
    → EndsOptions words × (over_disk name farm disk ≡ Some command)
both_ends name w farm disk [] command is utf8 read = (inl refl, sym is.ends ∙ read)
both_ends name w farm disk (u ∷ words) command is utf8 read = elim (word_kind u (utf8 0 [] (omega arith))) [
  | inl v ↦ unread name w (u ∷ words) command (is.value u words v) read
  | inr (inl dashes) ↦ by words dashes (subst (λ a. reads name w (a ∷ words) ≡ Some command) dashes read)
  | inr (inr flag) ↦ unread name w (u ∷ words) command (is.flag u words (λ k d below. utf8 (suc k) d (omega arith)) flag) read
]
  where
    by : (words : List Text) → u ≡ codes "--" → reads name w (codes "--" ∷ words) ≡ Some command → EndsOptions (u ∷ words) × (over_disk name farm disk ≡ Some command)
    by [] dashes read = (inr (ap (λ a. a ∷ []) dashes), sym is.dashes ∙ read)
    by (x ∷ more) dashes read = unread name w (codes "--" ∷ x ∷ more) command (is.more x more) read

ends_value : (farm : Text) (words : List Text) → IsValue farm → EndsOptions words → GivesValue farm (farm ∷ words)
ends_value farm words v (inl none) = inl (v, ap (λ (l : List Text). farm ∷ l) none)
ends_value farm words v (inr dashes) = inr (inr (v, ap (λ (l : List Text). farm ∷ l) dashes))

-- the disk came first
disk_said : (name : Text) (w : Walk) (disk : Text) (given words : List Text) (command : Command) → IsDisk name w disk → GivesDisk disk given → All IsUtf8 words → reads name w words ≡ Some command
    → Says name command (given ++ words)
disk_said name w disk given [] command is gives utf8 read = unread name w [] command is.ends read
disk_said name w disk given (u ∷ words) command is gives utf8 read = elim (word_kind u (utf8 0 [] (omega arith))) [
  | inl v ↦
      let both = both_ends name (has_farm (disk_rows name disk) u) u disk words command (disk_farm name disk u) (λ k d below. utf8 (suc k) d (omega arith)) (sym (is.value u words v) ∙ read) in
      disk_command name u disk command (given ++ u ∷ words) (given, u ∷ words, gives, inl (refl, ends_value u words v both.0)) both.1
  | inr (inl dashes) ↦ by words dashes (subst (λ a. reads name w (a ∷ words) ≡ Some command) dashes read)
  | inr (inr flag) ↦ unread name w (u ∷ words) command (is.flag u words (λ k d below. utf8 (suc k) d (omega arith)) flag) read
]
  where
    by : (words : List Text) → u ≡ codes "--" → reads name w (codes "--" ∷ words) ≡ Some command → Says name command (given ++ u ∷ words)
    by [] dashes read = unread name w (codes "--" ∷ []) command is.dashes_end read
    by (farm ∷ []) dashes read =
        disk_command name farm disk command (given ++ u ∷ farm ∷ []) (given, u ∷ farm ∷ [], gives, inl (refl, inr (inl (ap (λ a. a ∷ farm ∷ []) dashes)))) (sym (is.dashes farm) ∙ read)
    by (farm ∷ x ∷ more) dashes read = unread name w (codes "--" ∷ farm ∷ x ∷ more) command (is.dashes_more farm x more) read

-- the farm file came first
farm_said : (name farm : Text) (words : List Text) (command : Command) → IsValue farm → All IsUtf8 words → reads name (has_farm [] farm) words ≡ Some command → Says name command (farm ∷ words)
unfolding clap_on_literals
farm_said name farm [] command v utf8 read = farm_command name farm command (farm ∷ []) (inl (v, refl)) read
farm_said name farm (u ∷ words) command v utf8 read = elim (word_kind u (utf8 0 [] (omega arith))) [
  | inl second ↦ unread name w (u ∷ words) command (fails name w u words (value_cases (λ a. is_empty (turn_fault (leaf name) [] w a) ≡ false) refl refl (λ x xs e. simp e) u second)) read
  | inr (inl dashes) ↦ by words dashes (subst (λ a. reads name w (a ∷ words) ≡ Some command) dashes read)
  | inr (inr flag) ↦ elim (flag_kind u flag) [
    | inl (inl is) ↦ named is (waited name (farm_rows name farm) true words later)
    | inl (inr (disk, is)) ↦
        let goes : reads name w ((codes "--disk=" ++ disk) ∷ words) ≡ reads name (has_attached name (farm_rows name farm) 2 disk) words =
        steps name w (has_attached name (farm_rows name farm) 2 disk) (codes "--disk=" ++ disk) words refl refl in
        let both = both_ends name (has_attached name (farm_rows name farm) 2 disk) farm disk words command (farm_attached name farm disk) later
        (sym goes ∙ subst (λ a. reads name w (a ∷ words) ≡ Some command) is read) in
        disk_command name farm disk command (farm ∷ u ∷ words)
        ((codes "--disk=" ++ disk) ∷ [], words, inr refl, inr (v, ap (λ a. farm ∷ a ∷ words) is, both.0)) both.1
    | inr other ↦ unread name w (u ∷ words) command (fails name w u words (or_left _ _ (other_word name [] (Some (farm_id, farm ∷ [])) u other))) read
  ]
]
  where
    w : Walk
    w = has_farm [] farm

    later : All IsUtf8 words
    later = λ k d below. utf8 (suc k) d (omega arith)

    by : (words : List Text) → u ≡ codes "--" → reads name w (codes "--" ∷ words) ≡ Some command → Says name command (farm ∷ u ∷ words)
    by [] dashes read = farm_command name farm command (farm ∷ u ∷ []) (inr (inr (v, ap (λ a. farm ∷ a ∷ []) dashes))) read
    by (x ∷ more) dashes read = unread name w (codes "--" ∷ x ∷ more) command refl read

    named : u ≡ codes "--disk" → IsWaited name (farm_rows name farm) true words → Says name command (farm ∷ u ∷ words)
    named is (inl none) =
        unread name w (codes "--disk" ∷ words) command (steps name w (wants (farm_rows name farm) true) (codes "--disk") words refl refl ∙ none) (subst (λ a. reads name w (a ∷ words) ≡ Some command) is read)
    named is (inr (disk, more, d, are, goes)) =
        let first : reads name w (codes "--disk" ∷ words) ≡ reads name (wants (farm_rows name farm) true) words = steps name w (wants (farm_rows name farm) true) (codes "--disk") words refl refl in
        let both = both_ends name (has_disk (farm_rows name farm) 2 disk) farm disk more command (farm_disk name farm disk) (λ k e below. (subst (λ (l : List Text). All IsUtf8 l) are later) (suc k) e (omega arith))
        (sym goes ∙ (sym first ∙ subst (λ a. reads name w (a ∷ words) ≡ Some command) is read)) in
        disk_command name farm disk command (farm ∷ u ∷ words)
        (codes "--disk" ∷ disk ∷ [], more, inl (d, refl), inr (v, ap (λ a. farm ∷ a ∷ words) is ∙ ap (λ (l : List Text). farm ∷ codes "--disk" ∷ l) are, both.0)) both.1

farm_goes : (name farm : Text) (words : List Text) → IsValue farm → reads name start (farm ∷ words) ≡ reads name (has_farm [] farm) words
unfolding clap_on_literals
farm_goes name farm words v = value_cases (λ a. reads name start (a ∷ words) ≡ reads name (has_farm [] a) words)
    (steps name start (has_farm [] []) [] words refl refl)
    (steps name start (has_farm [] (45 ∷ [])) (45 ∷ []) words refl refl)
    (λ x xs e. steps name start (has_farm [] (x ∷ xs)) (x ∷ xs) words (simp e) (simp e)) farm v

disk_goes : (name : Text) (words : List Text) → reads name start (codes "--disk" ∷ words) ≡ reads name (wants [] false) words
unfolding clap_on_literals
disk_goes name words = steps name start (wants [] false) (codes "--disk") words refl refl

attached_goes : (name disk : Text) (words : List Text) → reads name start ((codes "--disk=" ++ disk) ∷ words) ≡ reads name (has_attached name [] 1 disk) words
unfolding clap_on_literals
attached_goes name disk words = steps name start (has_attached name [] 1 disk) (codes "--disk=" ++ disk) words refl refl

-- words that are read say it
pub start_said : (name : Text) (words : List Text) (command : Command) → All IsUtf8 words → reads name start words ≡ Some command → Says name command words
unfolding clap_on_literals
start_said name [] command utf8 read = unread name start [] command refl read
start_said name (u ∷ words) command utf8 read = elim (word_kind u (utf8 0 [] (omega arith))) [
  | inl v ↦ farm_said name u words command v later (sym (farm_goes name u words v) ∙ read)
  | inr (inl dashes) ↦ by words dashes (subst (λ a. reads name start (a ∷ words) ≡ Some command) dashes read)
  | inr (inr flag) ↦ elim (flag_kind u flag) [
    | inl (inl is) ↦ named is (waited name [] false words later)
    | inl (inr (disk, is)) ↦
        subst (λ a. Says name command (a ∷ words)) (sym is)
        (disk_said name (has_attached name [] 1 disk) disk ((codes "--disk=" ++ disk) ∷ []) words command (attached_first name disk) (inr refl) later
        (sym (attached_goes name disk words) ∙ subst (λ a. reads name start (a ∷ words) ≡ Some command) is read))
    | inr other ↦ unread name start (u ∷ words) command (fails name start u words (or_left _ _ (other_word name [] None u other))) read
  ]
]
  where
    later : All IsUtf8 words
    later = λ k d below. utf8 (suc k) d (omega arith)

    by : (words : List Text) → u ≡ codes "--" → reads name start (codes "--" ∷ words) ≡ Some command → Says name command (u ∷ words)
    by [] dashes read = unread name start (codes "--" ∷ []) command refl read
    by (farm ∷ []) dashes read = farm_command name farm command (u ∷ farm ∷ []) (inr (inl (ap (λ a. a ∷ farm ∷ []) dashes))) read
    by (farm ∷ x ∷ more) dashes read = unread name start (codes "--" ∷ farm ∷ x ∷ more) command refl read

    named : u ≡ codes "--disk" → IsWaited name [] false words → Says name command (u ∷ words)
    named is (inl none) =
        unread name start (codes "--disk" ∷ words) command (disk_goes name words ∙ none) (subst (λ a. reads name start (a ∷ words) ≡ Some command) is read)
    named is (inr (disk, more, d, are, goes)) =
        subst (λ a. Says name command (a ∷ words)) (sym is) (subst (λ (l : List Text). Says name command (codes "--disk" ∷ l)) (sym are)
        (disk_said name (has_disk [] 1 disk) disk (codes "--disk" ∷ disk ∷ []) more command (disk_first name disk) (inl (d, refl))
        (λ k e below. (subst (λ (l : List Text). All IsUtf8 l) are later) (suc k) e (omega arith))
        (sym goes ∙ (sym (disk_goes name words) ∙ subst (λ a. reads name start (a ∷ words) ≡ Some command) is read))))

-- ---- and words that say it are read so

ends_read : (name : Text) (w : Walk) (farm disk : Text) (words : List Text) → IsBoth name w farm disk → EndsOptions words → reads name w words ≡ over_disk name farm disk
ends_read name w farm disk words is (inl none) = subst (λ (l : List Text). reads name w l ≡ over_disk name farm disk) (sym none) is.ends
ends_read name w farm disk words is (inr dashes) = subst (λ (l : List Text). reads name w l ≡ over_disk name farm disk) (sym dashes) is.dashes

value_read : (name : Text) (w : Walk) (farm disk : Text) (words : List Text) → IsDisk name w disk → GivesValue farm words → reads name w words ≡ over_disk name farm disk
value_read name w farm disk words is (inl (v, are)) =
    subst (λ (l : List Text). reads name w l ≡ over_disk name farm disk) (sym are) (is.value farm [] v ∙ (disk_farm name disk farm).ends)
value_read name w farm disk words is (inr (inl are)) = subst (λ (l : List Text). reads name w l ≡ over_disk name farm disk) (sym are) (is.dashes farm)
value_read name w farm disk words is (inr (inr (v, are))) =
    subst (λ (l : List Text). reads name w l ≡ over_disk name farm disk) (sym are) (is.value farm (codes "--" ∷ []) v ∙ (disk_farm name disk farm).dashes)

pub both_read : (name farm disk : Text) (words : List Text) → GivesBoth farm disk words → reads name start words ≡ over_disk name farm disk
unfolding clap_on_literals
both_read name farm disk words (given, rest, inl (d, is), inl (are, gives)) =
    subst (λ (l : List Text). reads name start l ≡ over_disk name farm disk) (sym (are ∙ ap (λ (l : List Text). l ++ rest) is))
    (disk_goes name (disk ∷ rest) ∙ (value_taken name [] false disk rest d ∙ value_read name (has_disk [] 1 disk) farm disk rest (disk_first name disk) gives))
both_read name farm disk words (given, rest, inr is, inl (are, gives)) =
    subst (λ (l : List Text). reads name start l ≡ over_disk name farm disk) (sym (are ∙ ap (λ (l : List Text). l ++ rest) is))
    (attached_goes name disk rest ∙ value_read name (has_attached name [] 1 disk) farm disk rest (attached_first name disk) gives)
both_read name farm disk words (given, rest, inl (d, is), inr (v, are, ends)) =
    subst (λ (l : List Text). reads name start l ≡ over_disk name farm disk) (sym (are ∙ ap (λ (l : List Text). farm ∷ l ++ rest) is))
    (farm_goes name farm (codes "--disk" ∷ disk ∷ rest) v
    ∙ (steps name (has_farm [] farm) (wants (farm_rows name farm) true) (codes "--disk") (disk ∷ rest) refl refl
    ∙ (value_taken name (farm_rows name farm) true disk rest d ∙ ends_read name (has_disk (farm_rows name farm) 2 disk) farm disk rest (farm_disk name farm disk) ends)))
both_read name farm disk words (given, rest, inr is, inr (v, are, ends)) =
    subst (λ (l : List Text). reads name start l ≡ over_disk name farm disk) (sym (are ∙ ap (λ (l : List Text). farm ∷ l ++ rest) is))
    (farm_goes name farm ((codes "--disk=" ++ disk) ∷ rest) v
    ∙ (steps name (has_farm [] farm) (has_attached name (farm_rows name farm) 2 disk) (codes "--disk=" ++ disk) rest refl refl
    ∙ ends_read name (has_attached name (farm_rows name farm) 2 disk) farm disk rest (farm_attached name farm disk) ends))
