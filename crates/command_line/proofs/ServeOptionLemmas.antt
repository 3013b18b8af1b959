-- What each word does to `serve`: a value, `--`, an option, and any other flag.
use Rattle.std.proofs.Common.{◌≡◌, ◌⊎◌, ◌∙◌, ℕ, Bool, true, false, cond, refl, sym, ap, subst, inl, inr, arith, List, [], ◌∷◌, ◌++◌, Option, Some, None, codes, length}
use Rattle.std.specs.Prelude.{◌==◌, ◌||◌, ◌&&◌, IsUtf8, drop, encode_utf8, slice_get}
use Rattle.std.specs.List.{All, after_first, before_first}
use Rattle.std.specs.Str.{bytes_eq, chars}
use Rattle.std.proofs.lemmas.Slice.Eq.{bytes_eq-Decides}
use Rattle.clap.specs.Words.{Kinds, Row, Rule, Text}
use Rattle.clap.specs.Faults.{bundle_step_fault, flags_fault, settle_fault, turn_fault, use_fault, word_fault}
use Rattle.clap.specs.Kinds.{or_else}
use Rattle.clap.specs.Lexer.{has_byte, name_and_value}
use Rattle.clap.specs.Simple.{filled}
use Rattle.clap.specs.Walk.{Held, Waiting, idle, is_empty, is_pending, option, pushed, reacted, settled, walked}
use Rattle.clap.proofs.OnLiterals.{clap_on_literals}
use Rattle.command_line.proofs.DiskFormLemmas.{cut_once, uncut}
use Rattle.command_line.proofs.FaultLemmas.{long_flag, or_left, short_flag}
use Rattle.command_line.proofs.FlagLemmas.{IsFlag, value_cases, word_kind}
use Rattle.command_line.proofs.ServeWalkLemmas.{IsRule, Settles, again, args, end_unread, fails, farm_id, farm_rule, held, leaf, none_bad, reads, rows_for, stands, steps}
use Rattle.command_line.specs.Options.{IsValue}
use Rattle.command_line.specs.ServeForms.{Given, IsServeOption}
use Rattle.command_line.specs.Signing.{option_rule}

abbrev pub dashes : Text → Text
dashes word = 45 ∷ 45 ∷ word

never : {X : Type 0} (b : Bool) (x y : X) → cond (b && false) x y ≡ y
never true x y = refl
never false x y = refl

-- ---- the farm file in its place

farm_turn : (h : Held) (word : Text) → IsValue word → turn_fault leaf [] (stands h idle false false) word ≡ cond (is_pending farm_rule h.pending && false) [] (settle_fault args false h)
unfolding clap_on_literals
farm_turn h word v =
    value_cases (λ a. turn_fault leaf [] (stands h idle false false) a ≡ cond (is_pending farm_rule h.pending && false) [] (settle_fault args false h)) refl refl (λ x xs e. simp e) word v

farm_walk : (h : Held) (word : Text) → IsValue word
    → walked args [] (stands h idle false false) word ≡ stands (pushed farm_id word (cond (is_pending farm_rule h.pending && false) h (settled args h))) idle true false
unfolding clap_on_literals
farm_walk h word v =
    value_cases (λ a. walked args [] (stands h idle false false) a ≡ stands (pushed farm_id a (cond (is_pending farm_rule h.pending && false) h (settled args h))) idle true false) refl refl (λ x xs e. simp e) word v

-- a second one is no word of it
stray : (h : Held) (word : Text) → IsValue word → is_empty (turn_fault leaf [] (stands h idle true false) word) ≡ false
unfolding clap_on_literals
stray h word v = value_cases (λ a. is_empty (turn_fault leaf [] (stands h idle true false) a) ≡ false) refl refl (λ x xs e. simp e) word v

pub stray_unread : (h : Held) (word : Text) (words : List Text) → IsValue word → reads (stands h idle true false) (word ∷ words) ≡ None
stray_unread h word words v = fails (stands h idle true false) word words (stray h word v)

pub farm_goes : (rows : List Row) (pending : Option (Text × List Text)) (given : List Given) (word : Text) (words : List Text) → Settles rows pending given → IsValue word
    → reads (stands (held rows pending) idle false false) (word ∷ words) ≡ reads (stands (held (rows_for given) (Some (farm_id, word ∷ []))) idle true false) words
farm_goes rows pending given word words settles v =
    let h : Held = held rows pending in
    let b : Bool = is_pending farm_rule pending in
    steps (stands h idle false false) (stands (held (rows_for given) (Some (farm_id, word ∷ []))) idle true false) word words
    (farm_turn h word v ∙ (never b [] (settle_fault args false h) ∙ settles.0))
    (farm_walk h word v ∙ (ap (λ (k : Held). stands (pushed farm_id word k) idle true false) (never b h (settled args h) ∙ settles.1)))

-- ---- `--`, and the words behind it

pub dashes_step : (h : Held) (farm : Bool) (words : List Text) → reads (stands h idle farm false) (codes "--" ∷ words) ≡ reads (stands h idle farm true) words
unfolding clap_on_literals
dashes_step h farm words = steps (stands h idle farm false) (stands h idle farm true) (codes "--") words refl refl

behind_turn : (h : Held) (waiting : Waiting) (word : Text) → turn_fault leaf [] (stands h waiting false true) word ≡ cond (is_pending farm_rule h.pending && false) [] (settle_fault args false h)
unfolding clap_on_literals
behind_turn h waiting word = refl

behind_walk : (h : Held) (word : Text)
    → walked args [] (stands h idle false true) word ≡ stands (pushed farm_id word (cond (is_pending farm_rule h.pending && false) h (settled args h))) idle true true
unfolding clap_on_literals
behind_walk h word = refl

behind_stray : (h : Held) (waiting : Waiting) (word : Text) → is_empty (turn_fault leaf [] (stands h waiting true true) word) ≡ false
unfolding clap_on_literals
behind_stray h waiting word = refl

pub behind_unread : (h : Held) (word : Text) (words : List Text) → reads (stands h idle true true) (word ∷ words) ≡ None
behind_unread h word words = fails (stands h idle true true) word words (behind_stray h idle word)

pub behind_goes : (rows : List Row) (pending : Option (Text × List Text)) (given : List Given) (word : Text) (words : List Text) → Settles rows pending given
    → reads (stands (held rows pending) idle false true) (word ∷ words) ≡ reads (stands (held (rows_for given) (Some (farm_id, word ∷ []))) idle true true) words
behind_goes rows pending given word words settles =
    let h : Held = held rows pending in
    let b : Bool = is_pending farm_rule pending in
    steps (stands h idle false true) (stands (held (rows_for given) (Some (farm_id, word ∷ []))) idle true true) word words
    (behind_turn h idle word ∙ (never b [] (settle_fault args false h) ∙ settles.0))
    (behind_walk h word ∙ (ap (λ (k : Held). stands (pushed farm_id word k) idle true true) (never b h (settled args h) ∙ settles.1)))

-- ---- an option

pub record IsOption (rule : Rule) (id : Text) : Type 0 where
  pub is : IsRule rule id
  pub named_word : (rows : List Row) (pending : Option (Text × List Text)) → word_fault leaf [] false idle (dashes id) (held rows pending) ≡ settle_fault args false (held rows pending)
  pub named_turn : (h : Held) (farm : Bool) → turn_fault leaf [] (stands h idle farm false) (dashes id) ≡ or_else (settle_fault args false h) []
  pub named_walk : (h : Held) (farm : Bool) → walked args [] (stands h idle farm false) (dashes id) ≡ stands (record (settled args h) { pending = Some (id, []) }) (option id) farm false
  pub attached_word : (value : Text) (rows : List Row) (pending : Option (Text × List Text)) → word_fault leaf [] false idle (dashes (id ++ 61 ∷ value)) (held rows pending)
      ≡ or_else (settle_fault args false (held rows pending)) (use_fault false rule (value ∷ []) (settled args (held rows pending)).rows)
  pub attached_turn : (value : Text) (h : Held) (farm : Bool) → turn_fault leaf [] (stands h idle farm false) (dashes (id ++ 61 ∷ value))
      ≡ or_else (or_else (settle_fault args false h) (use_fault false rule (value ∷ []) (settled args h).rows)) []
  pub attached_walk : (value : Text) (h : Held) (farm : Bool) → walked args [] (stands h idle farm false) (dashes (id ++ 61 ∷ value)) ≡ stands (reacted args rule (value ∷ []) h) idle farm false
  pub value_turn : (rows : List Row) (farm : Bool) (value : Text) → IsValue value → turn_fault leaf [] (stands (held rows (Some (id, []))) (option id) farm false) value ≡ []
  pub value_walk : (rows : List Row) (farm : Bool) (value : Text) → IsValue value
      → walked args [] (stands (held rows (Some (id, []))) (option id) farm false) value ≡ stands (held rows (Some (id, value ∷ []))) idle farm false

abbrev disk_rule : Rule
disk_rule = filled (option_rule (codes "disk") true)

disk_is_rule : IsRule disk_rule (codes "disk")
unfolding clap_on_literals
disk_is_rule = record {
  by_id = refl;
  uses = λ value rows. refl;
  use_free = λ value rows e. ap again e;
  use_taken = λ value rows e. ap (λ (b : Bool). is_empty (again b)) e;
  use_none = λ rows. refl;
}

disk_is : IsOption disk_rule (codes "disk")
unfolding clap_on_literals
disk_is = record {
  is = disk_is_rule;
  named_word = λ rows pending. refl;
  named_turn = λ h farm. refl;
  named_walk = λ h farm. refl;
  attached_word = λ value rows pending. refl;
  attached_turn = λ value h farm. refl;
  attached_walk = λ value h farm. refl;
  value_turn = λ rows farm value v. value_cases (λ a. turn_fault leaf [] (stands (held rows (Some (codes "disk", []))) (option (codes "disk")) farm false) a ≡ []) refl refl (λ x xs e. simp e) value v;
  value_walk = λ rows farm value v. value_cases (λ a. walked args [] (stands (held rows (Some (codes "disk", []))) (option (codes "disk")) farm false) a ≡ stands (held rows (Some (codes "disk", a ∷ []))) idle farm false)
      refl refl (λ x xs e. simp e) value v;
}

abbrev listen_rule : Rule
listen_rule = filled (option_rule (codes "listen") true)

listen_is_rule : IsRule listen_rule (codes "listen")
unfolding clap_on_literals
listen_is_rule = record {
  by_id = refl;
  uses = λ value rows. refl;
  use_free = λ value rows e. ap again e;
  use_taken = λ value rows e. ap (λ (b : Bool). is_empty (again b)) e;
  use_none = λ rows. refl;
}

listen_is : IsOption listen_rule (codes "listen")
unfolding clap_on_literals
listen_is = record {
  is = listen_is_rule;
  named_word = λ rows pending. refl;
  named_turn = λ h farm. refl;
  named_walk = λ h farm. refl;
  attached_word = λ value rows pending. refl;
  attached_turn = λ value h farm. refl;
  attached_walk = λ value h farm. refl;
  value_turn = λ rows farm value v. value_cases (λ a. turn_fault leaf [] (stands (held rows (Some (codes "listen", []))) (option (codes "listen")) farm false) a ≡ []) refl refl (λ x xs e. simp e) value v;
  value_walk = λ rows farm value v. value_cases (λ a. walked args [] (stands (held rows (Some (codes "listen", []))) (option (codes "listen")) farm false) a ≡ stands (held rows (Some (codes "listen", a ∷ []))) idle farm false)
      refl refl (λ x xs e. simp e) value v;
}

abbrev workers_rule : Rule
workers_rule = filled (option_rule (codes "workers") false)

workers_is_rule : IsRule workers_rule (codes "workers")
unfolding clap_on_literals
workers_is_rule = record {
  by_id = refl;
  uses = λ value rows. refl;
  use_free = λ value rows e. ap again e;
  use_taken = λ value rows e. ap (λ (b : Bool). is_empty (again b)) e;
  use_none = λ rows. refl;
}

workers_is : IsOption workers_rule (codes "workers")
unfolding clap_on_literals
workers_is = record {
  is = workers_is_rule;
  named_word = λ rows pending. refl;
  named_turn = λ h farm. refl;
  named_walk = λ h farm. refl;
  attached_word = λ value rows pending. refl;
  attached_turn = λ value h farm. refl;
  attached_walk = λ value h farm. refl;
  value_turn = λ rows farm value v. value_cases (λ a. turn_fault leaf [] (stands (held rows (Some (codes "workers", []))) (option (codes "workers")) farm false) a ≡ []) refl refl (λ x xs e. simp e) value v;
  value_walk = λ rows farm value v. value_cases (λ a. walked args [] (stands (held rows (Some (codes "workers", []))) (option (codes "workers")) farm false) a ≡ stands (held rows (Some (codes "workers", a ∷ []))) idle farm false)
      refl refl (λ x xs e. simp e) value v;
}

abbrev connections_rule : Rule
connections_rule = filled (option_rule (codes "connections") false)

connections_is_rule : IsRule connections_rule (codes "connections")
unfolding clap_on_literals
connections_is_rule = record {
  by_id = refl;
  uses = λ value rows. refl;
  use_free = λ value rows e. ap again e;
  use_taken = λ value rows e. ap (λ (b : Bool). is_empty (again b)) e;
  use_none = λ rows. refl;
}

connections_is : IsOption connections_rule (codes "connections")
unfolding clap_on_literals
connections_is = record {
  is = connections_is_rule;
  named_word = λ rows pending. refl;
  named_turn = λ h farm. refl;
  named_walk = λ h farm. refl;
  attached_word = λ value rows pending. refl;
  attached_turn = λ value h farm. refl;
  attached_walk = λ value h farm. refl;
  value_turn = λ rows farm value v. value_cases (λ a. turn_fault leaf [] (stands (held rows (Some (codes "connections", []))) (option (codes "connections")) farm false) a ≡ []) refl refl (λ x xs e. simp e) value v;
  value_walk = λ rows farm value v. value_cases (λ a. walked args [] (stands (held rows (Some (codes "connections", []))) (option (codes "connections")) farm false) a ≡ stands (held rows (Some (codes "connections", a ∷ []))) idle farm false)
      refl refl (λ x xs e. simp e) value v;
}

pub option_is : (id : Text) → IsServeOption id → (rule : Rule) × IsOption rule id
option_is id (inl e) = subst (λ (i : Text). (rule : Rule) × IsOption rule i) (sym e) (disk_rule, disk_is)
option_is id (inr (inl e)) = subst (λ (i : Text). (rule : Rule) × IsOption rule i) (sym e) (listen_rule, listen_is)
option_is id (inr (inr (inl e))) = subst (λ (i : Text). (rule : Rule) × IsOption rule i) (sym e) (workers_rule, workers_is)
option_is id (inr (inr (inr e))) = subst (λ (i : Text). (rule : Rule) × IsOption rule i) (sym e) (connections_rule, connections_is)

pub named_goes : (rule : Rule) (id : Text) (rows : List Row) (pending : Option (Text × List Text)) (given : List Given) (farm : Bool) (words : List Text) → IsOption rule id → Settles rows pending given
    → reads (stands (held rows pending) idle farm false) (dashes id ∷ words) ≡ reads (stands (held (rows_for given) (Some (id, []))) (option id) farm false) words
named_goes rule id rows pending given farm words is settles =
    let h : Held = held rows pending in
    steps (stands h idle farm false) (stands (held (rows_for given) (Some (id, []))) (option id) farm false) (dashes id) words
    (is.named_turn h farm ∙ ap (λ (k : Kinds). or_else k []) settles.0)
    (is.named_walk h farm ∙ ap (λ (k : Held). stands (record k { pending = Some (id, []) }) (option id) farm false) settles.1)

pub value_goes : (rule : Rule) (id : Text) (rows : List Row) (farm : Bool) (value : Text) (words : List Text) → IsOption rule id → IsValue value
    → reads (stands (held rows (Some (id, []))) (option id) farm false) (value ∷ words) ≡ reads (stands (held rows (Some (id, value ∷ []))) idle farm false) words
value_goes rule id rows farm value words is v =
    steps (stands (held rows (Some (id, []))) (option id) farm false) (stands (held rows (Some (id, value ∷ []))) idle farm false) value words (is.value_turn rows farm value v) (is.value_walk rows farm value v)

-- ---- flags

-- the word is an option, with a value or without
abbrev pub IsOptionFlag : Text → Type 0
IsOptionFlag w = (id : Text) × IsServeOption id × ((w ≡ dashes id) ⊎ ((value : Text) × (w ≡ dashes (id ++ 61 ∷ value))))

-- the word is a flag that fails wherever it stands
abbrev pub IsOther : Text → Type 0
IsOther w = (rows : List Row) (pending : Option (Text × List Text)) → is_empty (word_fault leaf [] false idle w (held rows pending)) ≡ false

option_form : (id text : Text) → bytes_eq id (name_and_value text).0 ≡ true → (dashes text ≡ dashes id) ⊎ ((value : Text) × (dashes text ≡ dashes (id ++ 61 ∷ value)))
option_form id text same = go (has_byte 61 text) refl
  where
    is : id ≡ before_first (λ x. x == 61) text
    is = (bytes_eq-Decides id (name_and_value text).0).0 same

    go : (b : Bool) → has_byte 61 text ≡ b → (dashes text ≡ dashes id) ⊎ ((value : Text) × (dashes text ≡ dashes (id ++ 61 ∷ value)))
    go true has = inr (after_first (λ x. x == 61) text, ap dashes (cut_once text has ∙ ap (λ (t : Text). t ++ 61 ∷ after_first (λ x. x == 61) text) (sym is)))
    go false none = inl (ap dashes (sym (uncut text none) ∙ sym is))

option_flag : (w id text : Text) → w ≡ dashes text → IsServeOption id → bytes_eq id (name_and_value text).0 ≡ true → IsOptionFlag w ⊎ IsOther w
option_flag w id text is which same = inl (id, which, subst (λ (a : Text). (a ≡ dashes id) ⊎ ((value : Text) × (a ≡ dashes (id ++ 61 ∷ value)))) (sym is) (option_form id text same))

long_kind : (w : Text) (z : ℕ) (zs : Text) → w ≡ dashes (z ∷ zs) → (d l k c : Bool) → bytes_eq (codes "disk") (name_and_value (z ∷ zs)).0 ≡ d → bytes_eq (codes "listen") (name_and_value (z ∷ zs)).0 ≡ l
    → bytes_eq (codes "workers") (name_and_value (z ∷ zs)).0 ≡ k → bytes_eq (codes "connections") (name_and_value (z ∷ zs)).0 ≡ c → IsOptionFlag w ⊎ IsOther w
unfolding clap_on_literals
long_kind w z zs is true l k c is_d is_l is_k is_c = option_flag w (codes "disk") (z ∷ zs) is (inl refl) is_d
long_kind w z zs is false true k c is_d is_l is_k is_c = option_flag w (codes "listen") (z ∷ zs) is (inr (inl refl)) is_l
long_kind w z zs is false false true c is_d is_l is_k is_c = option_flag w (codes "workers") (z ∷ zs) is (inr (inr (inl refl))) is_k
long_kind w z zs is false false false true is_d is_l is_k is_c = option_flag w (codes "connections") (z ∷ zs) is (inr (inr (inr refl))) is_c
long_kind w z zs is false false false false is_d is_l is_k is_c =
    let met = name_and_value (z ∷ zs) in
    inr (λ rows pending. subst (λ a. is_empty (word_fault leaf [] false idle a (held rows pending)) ≡ false) (sym is)
    (simp (is_d, is_l, is_k, is_c) (long_flag args (bytes_eq (codes "help") met.0 || false) met.1 (held rows pending))))

short_kind : (w : Text) (y : ℕ) (ys : Text) (x : ℕ) → w ≡ 45 ∷ y ∷ ys → (y == 45) ≡ false → slice_get (chars (y ∷ ys)) 0 ≡ Some x → IsOther w
unfolding clap_on_literals
short_kind w y ys x is other first = λ rows pending.
    let flags : Text = y ∷ ys in
    let next = flags_fault args false (length ys) in
    let rest : Text = drop (length (encode_utf8 x)) flags in
    subst (λ a. is_empty (word_fault leaf [] false idle a (held rows pending)) ≡ false) (sym is) (simp other
    (subst (λ o. is_empty (bundle_step_fault args false o flags 0 (held rows pending) next) ≡ false) (sym first)
    (short_flag args (104 == x || false) rest (held rows pending) (next rest 0))))

pub flag_kind : (w : Text) → IsFlag w → IsOptionFlag w ⊎ IsOther w
flag_kind w (inl (z, zs, is)) = long_kind w z zs is _ _ _ _ refl refl refl refl
flag_kind w (inr (y, ys, x, is, other, first)) = inr (short_kind w y ys x is other first)

-- ---- where what pends does not fit, the words are not read, whatever comes

module _ (rows : List Row) (pending : Option (Text × List Text)) (bad : is_empty (settle_fault args false (held rows pending)) ≡ false) where
  flag_bad : (w : Text) → IsFlag w → is_empty (word_fault leaf [] false idle w (held rows pending)) ≡ false
  flag_bad w flag = elim (flag_kind w flag) [
    | inl (id, which, inl is) ↦ subst (λ a. is_empty (word_fault leaf [] false idle a (held rows pending)) ≡ false) (sym is)
        (ap is_empty ((option_is id which).1.named_word rows pending) ∙ bad)
    | inl (id, which, inr (value, is)) ↦ subst (λ a. is_empty (word_fault leaf [] false idle a (held rows pending)) ≡ false) (sym is)
        (ap is_empty ((option_is id which).1.attached_word value rows pending) ∙ or_left (settle_fault args false (held rows pending)) _ bad)
    | inr other ↦ other rows pending
  ]

  -- what waits makes no difference to a flag
  waiting_flag_bad : (id w : Text) → IsFlag w → is_empty (word_fault leaf [] false (option id) w (held rows pending)) ≡ false
  waiting_flag_bad id w flag = flag_bad w flag

  behind_bad : (waiting : Waiting) (farm : Bool) (words : List Text) → reads (stands (held rows pending) waiting farm true) words ≡ None
  behind_bad waiting farm [] = end_unread rows pending waiting farm true bad
  behind_bad waiting true (w ∷ words) = fails (stands (held rows pending) waiting true true) w words (behind_stray (held rows pending) waiting w)
  behind_bad waiting false (w ∷ words) =
      fails (stands (held rows pending) waiting false true) w words
      (ap is_empty (behind_turn (held rows pending) waiting w ∙ never (is_pending farm_rule pending) [] (settle_fault args false (held rows pending))) ∙ bad)

  value_bad : (farm : Bool) (w : Text) → IsValue w → is_empty (turn_fault leaf [] (stands (held rows pending) idle farm false) w) ≡ false
  value_bad true w v = stray (held rows pending) w v
  value_bad false w v = ap is_empty (farm_turn (held rows pending) w v ∙ never (is_pending farm_rule pending) [] (settle_fault args false (held rows pending))) ∙ bad

  pub bad_unread : (farm : Bool) (words : List Text) → All IsUtf8 words → reads (stands (held rows pending) idle farm false) words ≡ None
  bad_unread farm [] utf8 = end_unread rows pending idle farm false bad
  bad_unread farm (w ∷ words) utf8 = elim (word_kind w (utf8 0 [] (omega arith))) [
    | inl v ↦ fails (stands (held rows pending) idle farm false) w words (value_bad farm w v)
    | inr (inl is) ↦ subst (λ a. reads (stands (held rows pending) idle farm false) (a ∷ words) ≡ None) (sym is) (dashes_step (held rows pending) farm words ∙ behind_bad idle farm words)
    | inr (inr flag) ↦ fails (stands (held rows pending) idle farm false) w words (or_left _ _ (flag_bad w flag))
  ]

-- an option whose value does not come
dashes_wait : (h : Held) (id : Text) (farm : Bool) (words : List Text) → reads (stands h (option id) farm false) (codes "--" ∷ words) ≡ reads (stands h (option id) farm true) words
unfolding clap_on_literals
dashes_wait h id farm words = steps (stands h (option id) farm false) (stands h (option id) farm true) (codes "--") words refl refl

-- the next word is its value, or the words are not read
abbrev pub IsWaited : List Row → Text → Bool → List Text → Type 0
IsWaited rows id farm words =
    (reads (stands (held rows (Some (id, []))) (option id) farm false) words ≡ None) ⊎ ((value : Text) × (more : List Text) × IsValue value × (words ≡ value ∷ more))

pub waited : (rule : Rule) (id : Text) (rows : List Row) (farm : Bool) (words : List Text) → IsOption rule id → All IsUtf8 words → IsWaited rows id farm words
waited rule id rows farm [] is utf8 = inl (end_unread rows (Some (id, [])) (option id) farm false (none_bad rule id rows is.is))
waited rule id rows farm (w ∷ words) is utf8 = elim (word_kind w (utf8 0 [] (omega arith))) [
  | inl v ↦ inr (w, words, v, refl)
  | inr (inl are) ↦ inl (subst (λ a. reads (stands (held rows (Some (id, []))) (option id) farm false) (a ∷ words) ≡ None) (sym are)
      (dashes_wait (held rows (Some (id, []))) id farm words ∙ behind_bad rows (Some (id, [])) (none_bad rule id rows is.is) (option id) farm words))
  | inr (inr flag) ↦ inl (fails (stands (held rows (Some (id, []))) (option id) farm false) w words (or_left _ _ (waiting_flag_bad rows (Some (id, [])) (none_bad rule id rows is.is) id w flag)))
]
