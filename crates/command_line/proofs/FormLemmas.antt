-- Which words are read as a command.
use Rattle.std.proofs.Common.{◌≡◌, ◌⊎◌, ◌∙◌, Bool, true, false, suc, cond, refl, sym, ap, subst, arith, inl, inr, List, [], ◌∷◌, Option, Some, None, codes, length, option_map, option_and_then}
use Rattle.std.specs.Prelude.{◌==◌, ◌||◌, IsUtf8, drop, encode_utf8}
use Rattle.std.specs.List.{All}
use Rattle.std.proofs.lemmas.Slice.Eq.{bytes_eq-Decides}
use Rattle.std.specs.Str.{bytes_eq}
use Rattle.clap.specs.Words.{App, Kinds, Shape, Text, built, fault_of, subcommand_of}
use Rattle.clap.specs.Faults.{bundle_step_fault, entered_fault, flags_fault, level_fault, walk_fault, word_fault}
use Rattle.clap.specs.Lexer.{name_and_value}
use Rattle.clap.specs.Simple.{argument_words, built_leaf, entered, inherited, names_of}
use Rattle.clap.specs.Walk.{Walk, finished, idle, is_empty, nothing_held, walk_from, walked}
use Rattle.clap.proofs.OnLiterals.{clap_on_literals}
use Rattle.clap.specs.declared.error.ErrorKind.TheVariants.{UnknownArgument, InvalidSubcommand}
use Rattle.command_line.proofs.CommandLemmas.{command_goes, top, top_names}
use Rattle.command_line.proofs.DiskFormLemmas.{Says, args, both_read, end_of, faults, reads, start, start_said}
use Rattle.command_line.proofs.FaultLemmas.{first_fails, held, level_fails, long_flag, none_some, or_left, rest_fails, short_flag}
use Rattle.command_line.proofs.FlagLemmas.{IsFlag, value_cases, word_kind}
use Rattle.command_line.proofs.LawLemmas.{answer_stops, bulk_stops, check_stops, empty_read, expand_stops, fails_below, help_first, no_reading, other_first, sign_stops}
use Rattle.command_line.proofs.RenderLemmas.{render_ends, render_read}
use Rattle.command_line.proofs.ServeFormLemmas.{service_read, service_said}
use Rattle.command_line.specs.Forms.{Gives, GivesValue, SaysRender, SaysWork}
use Rattle.command_line.specs.Options.{EndsOptions, IsValue}
use Rattle.command_line.specs.Words.{IsPlain, command_in, farm_app, reading, with_farm}
use Rattle.command_line.specs.declared.command.Command.{Command}
use Rattle.command_line.specs.declared.command.Command.TheVariants.{OverFarm, Sign, Bulk, Render}
use Rattle.command_line.specs.declared.command.Work.{Work}
use Rattle.command_line.specs.declared.command.Work.TheVariants.{Answer, Expand, Check, Serve}
use Rattle.command_line.specs.declared.load.Load.{Load}
use Rattle.command_line.specs.declared.signing.Signing.{Signing}

-- the words say the command, if it is work over a farm or `render`
abbrev SaysCommand : Command → List Text → Type 0
SaysCommand (OverFarm farm work) words = SaysWork farm work words
SaysCommand (Sign signing) words = Unit {0}
SaysCommand (Bulk load) words = Unit {0}
SaysCommand Render words = SaysRender words

-- ---- a command's own words

abbrev leaf : Text → Shape
leaf name = built_leaf (inherited farm_app.top (with_farm name).top)

abbrev leaf_faults : Text → List Text → Kinds
leaf_faults name words = level_fault (leaf name) [] nothing_held words false []

two_values : (name f g : Text) (more : List Text) → IsValue f → IsValue g → leaf_faults name (f ∷ g ∷ more) ≡ UnknownArgument ∷ []
unfolding clap_on_literals
two_values name f g more v w =
    value_cases (λ a. leaf_faults name (a ∷ g ∷ more) ≡ UnknownArgument ∷ [])
    (value_cases (λ b. leaf_faults name ([] ∷ b ∷ more) ≡ UnknownArgument ∷ []) refl refl (λ y ys e. simp e) g w)
    (value_cases (λ b. leaf_faults name ((45 ∷ []) ∷ b ∷ more) ≡ UnknownArgument ∷ []) refl refl (λ y ys e. simp e) g w)
    (λ x xs d. value_cases (λ b. leaf_faults name ((x ∷ xs) ∷ b ∷ more) ≡ UnknownArgument ∷ []) (simp d) (simp d) (λ y ys e. simp (d, e)) g w)
    f v

value_dashes_word : (name f u : Text) (more : List Text) → IsValue f → leaf_faults name (f ∷ codes "--" ∷ u ∷ more) ≡ UnknownArgument ∷ []
unfolding clap_on_literals
value_dashes_word name f u more v =
    value_cases (λ a. leaf_faults name (a ∷ codes "--" ∷ u ∷ more) ≡ UnknownArgument ∷ []) refl refl (λ x xs d. simp d) f v

dashes_two_words : (name v u : Text) (more : List Text) → leaf_faults name (codes "--" ∷ v ∷ u ∷ more) ≡ UnknownArgument ∷ []
unfolding clap_on_literals
dashes_two_words name v u more = refl

no_value : (name : Text) → is_empty (leaf_faults name []) ≡ false
unfolding clap_on_literals
no_value name = refl

dashes_no_value : (name : Text) → is_empty (leaf_faults name (codes "--" ∷ [])) ≡ false
unfolding clap_on_literals
dashes_no_value name = refl

-- ---- flags

leaf_flag : (name : Text) (pending : Option (Text × List Text)) (w : Text) → IsFlag w → is_empty (word_fault (leaf name) [] false idle w (held pending)) ≡ false
unfolding clap_on_literals
leaf_flag name pending w (inl p) =
    let met = name_and_value (p.0 ∷ p.1) in
    subst (λ a. is_empty (word_fault (leaf name) [] false idle a (held pending)) ≡ false) (sym p.2)
    (long_flag (leaf name).rules (bytes_eq (codes "help") met.0 || false) met.1 (held pending))
leaf_flag name pending w (inr p) =
    let flags : Text = p.0 ∷ p.1 in
    let next = flags_fault (leaf name).rules false (length p.1) in
    let rest : Text = drop (length (encode_utf8 p.2)) flags in
    subst (λ a. is_empty (word_fault (leaf name) [] false idle a (held pending)) ≡ false) (sym p.3) (simp p.4
    (subst (λ o. is_empty (bundle_step_fault (leaf name).rules false o flags 0 (held pending) next) ≡ false) (sym p.5)
    (short_flag (leaf name).rules (104 == p.2 || false) rest (held pending) (next rest 0))))

pub flag_first : (name w : Text) (more : List Text) → IsFlag w → is_empty (leaf_faults name (w ∷ more)) ≡ false
flag_first name w more flag =
    level_fails (leaf name) [] (w ∷ more) false [] (first_fails (leaf name) [] (walk_from nothing_held) w more refl (leaf_flag name None w flag))

abbrev after_value : Text → Walk
after_value f = record { held = held (Some (codes "FARM", f ∷ [])); waiting = idle; position = 2; is_trailing = false; stopped = None }

value_walked : (name f : Text) → IsValue f → walked (leaf name).rules [] (walk_from nothing_held) f ≡ after_value f
unfolding clap_on_literals
value_walked name f v = value_cases (λ a. walked (leaf name).rules [] (walk_from nothing_held) a ≡ after_value a) refl refl (λ x xs e. simp e) f v

pub flag_second : (name f w : Text) (more : List Text) → IsValue f → IsFlag w → is_empty (leaf_faults name (f ∷ w ∷ more)) ≡ false
flag_second name f w more v flag =
    let fails = first_fails (leaf name) [] (after_value f) w more refl (leaf_flag name (Some (codes "FARM", f ∷ [])) w flag) in
    level_fails (leaf name) [] (f ∷ w ∷ more) false [] (rest_fails (leaf name) [] (walk_from nothing_held) f (w ∷ more)
    (subst (λ k. is_empty (walk_fault (leaf name) [] k (w ∷ more)) ≡ false) (sym (value_walked name f v)) fails))

-- ---- the first word

top_flag : (w : Text) → IsFlag w → is_empty (word_fault top top_names false idle w (held None)) ≡ false
unfolding clap_on_literals
top_flag w (inl p) =
    let met = name_and_value (p.0 ∷ p.1) in
    subst (λ a. is_empty (word_fault top top_names false idle a (held None)) ≡ false) (sym p.2)
    (long_flag top.rules (bytes_eq (codes "help") met.0 || false) met.1 (held None))
top_flag w (inr p) =
    let flags : Text = p.0 ∷ p.1 in
    let next = flags_fault top.rules false (length p.1) in
    let rest : Text = drop (length (encode_utf8 p.2)) flags in
    subst (λ a. is_empty (word_fault top top_names false idle a (held None)) ≡ false) (sym p.3) (simp p.4
    (subst (λ o. is_empty (bundle_step_fault top.rules false o flags 0 (held None) next) ≡ false) (sym p.5)
    (short_flag top.rules (104 == p.2 || false) rest (held None) (next rest 0))))

top_fails : (a : App) (words : List Text) → is_empty (walk_fault (built a).top (names_of (built a)) (walk_from nothing_held) (argument_words a words)) ≡ false
    → is_empty (fault_of a words) ≡ false
top_fails a words fails = or_left (walk_fault (built a).top (names_of (built a)) (walk_from nothing_held) (argument_words a words)) _ fails

flag_unread : (w : Text) (rest : List Text) → IsFlag w → reading (w ∷ rest) ≡ None
flag_unread w rest flag = no_reading (w ∷ rest) (top_fails farm_app (w ∷ rest) (first_fails top top_names (walk_from nothing_held) w rest refl (top_flag w flag)))

dashes_unread : (rest : List Text) → is_empty (fault_of farm_app (codes "--" ∷ rest)) ≡ false
unfolding clap_on_literals
dashes_unread [] = refl
dashes_unread (u ∷ more) = refl

dash_unread : (rest : List Text) → fault_of farm_app ((45 ∷ []) ∷ rest) ≡ UnknownArgument ∷ InvalidSubcommand ∷ []
unfolding clap_on_literals
dash_unread rest = refl

-- the first word of words that have a reading is a command's name
abbrev IsName : Text → Type 0
IsName w =
    (bytes_eq (codes "answer") w ≡ true) ⊎ ((bytes_eq (codes "expand") w ≡ true) ⊎ ((bytes_eq (codes "check") w ≡ true) ⊎ ((bytes_eq (codes "sign") w ≡ true)
    ⊎ ((bytes_eq (codes "bulk") w ≡ true) ⊎ ((bytes_eq (codes "render") w ≡ true) ⊎ (bytes_eq (codes "serve") w ≡ true))))))

value_named : (w : Text) (rest : List Text) (command : Command) → IsPlain w → reading (w ∷ rest) ≡ Some command → (a e c s b r v h : Bool) → bytes_eq (codes "answer") w ≡ a
    → bytes_eq (codes "expand") w ≡ e → bytes_eq (codes "check") w ≡ c → bytes_eq (codes "sign") w ≡ s → bytes_eq (codes "bulk") w ≡ b → bytes_eq (codes "render") w ≡ r
    → bytes_eq (codes "serve") w ≡ v → bytes_eq (codes "help") w ≡ h → IsName w
value_named w rest command plain read true e c s b r v h is_a is_e is_c is_s is_b is_r is_v is_h = inl is_a
value_named w rest command plain read false true c s b r v h is_a is_e is_c is_s is_b is_r is_v is_h = inr (inl is_e)
value_named w rest command plain read false false true s b r v h is_a is_e is_c is_s is_b is_r is_v is_h = inr (inr (inl is_c))
value_named w rest command plain read false false false true b r v h is_a is_e is_c is_s is_b is_r is_v is_h = inr (inr (inr (inl is_s)))
value_named w rest command plain read false false false false true r v h is_a is_e is_c is_s is_b is_r is_v is_h = inr (inr (inr (inr (inl is_b))))
value_named w rest command plain read false false false false false true v h is_a is_e is_c is_s is_b is_r is_v is_h = inr (inr (inr (inr (inr (inl is_r)))))
value_named w rest command plain read false false false false false false true h is_a is_e is_c is_s is_b is_r is_v is_h = inr (inr (inr (inr (inr (inr is_v)))))
value_named w rest command plain read false false false false false false false true is_a is_e is_c is_s is_b is_r is_v is_h =
    let none = help_first w rest is_h in absurd (none_some command (sym none ∙ read))
value_named w rest command plain read false false false false false false false false is_a is_e is_c is_s is_b is_r is_v is_h =
    let none = other_first w rest plain is_a is_e is_c is_s is_b is_r is_v is_h in absurd (none_some command (sym none ∙ read))

first_named : (w : Text) (rest : List Text) (command : Command) → IsUtf8 w → reading (w ∷ rest) ≡ Some command → IsName w
first_named w rest command utf8 read = elim (word_kind w utf8) [
  | inl v ↦ elim v [
    | inl plain ↦ value_named w rest command plain read _ _ _ _ _ _ _ _ refl refl refl refl refl refl refl refl
    | inr dash ↦ let none = no_reading ((45 ∷ []) ∷ rest) (ap is_empty (dash_unread rest)) in
        absurd (none_some command (sym none ∙ subst (λ a. reading (a ∷ rest) ≡ Some command) dash read))
  ]
  | inr other ↦ elim other [
    | inl dashes ↦ let none = no_reading (codes "--" ∷ rest) (dashes_unread rest) in
        absurd (none_some command (sym none ∙ subst (λ a. reading (a ∷ rest) ≡ Some command) dashes read))
    | inr flag ↦ absurd (none_some command (sym (flag_unread w rest flag) ∙ read))
  ]
]

-- ---- the words after a name

-- what is known of a command
record IsReadAs (name : Text) (of : Text → Command) : Type 0 where
  fails : (rest : List Text) → is_empty (leaf_faults name rest) ≡ false → reading (name ∷ rest) ≡ None
  alone : (f : Text) → IsValue f → reading (name ∷ f ∷ []) ≡ Some (of f)
  after : (f : Text) → reading (name ∷ codes "--" ∷ f ∷ []) ≡ Some (of f)
  before : (f : Text) → IsValue f → reading (name ∷ f ∷ codes "--" ∷ []) ≡ Some (of f)
  says : (f : Text) (rest : List Text) → GivesValue f rest → SaysCommand (of f) (name ∷ rest)

said : (name : Text) (of : Text → Command) (is : IsReadAs name of) (f : Text) (rest : List Text) (command : Command) → GivesValue f rest → reading (name ∷ rest) ≡ Some (of f)
    → reading (name ∷ rest) ≡ Some command → SaysCommand command (name ∷ rest)
said name of is f rest command gives one read =
    let same : of f ≡ command = cc in
    subst (λ (k : Command). SaysCommand k (name ∷ rest)) same (is.says f rest gives)

unsaid : (name : Text) (of : Text → Command) (is : IsReadAs name of) (rest : List Text) (command : Command) → is_empty (leaf_faults name rest) ≡ false
    → reading (name ∷ rest) ≡ Some command → SaysCommand command (name ∷ rest)
unsaid name of is rest command fails read = absurd (none_some command (sym (is.fails rest fails) ∙ read))

value_said : (name : Text) (of : Text → Command) (is : IsReadAs name of) (f : Text) (rest : List Text) (command : Command) → IsValue f → All IsUtf8 rest
    → reading (name ∷ f ∷ rest) ≡ Some command → SaysCommand command (name ∷ f ∷ rest)
value_said name of is f [] command v utf8 read = said name of is f (f ∷ []) command (inl (v, refl)) (is.alone f v) read
value_said name of is f (w ∷ more) command v utf8 read = elim (word_kind w (utf8 0 [] (omega arith))) [
  | inl second ↦ unsaid name of is (f ∷ w ∷ more) command (ap is_empty (two_values name f w more v second)) read
  | inr other ↦ elim other [
    | inl dashes ↦ value_dashes_said more (subst (λ a. reading (name ∷ f ∷ a ∷ more) ≡ Some command) dashes read) dashes
    | inr flag ↦ unsaid name of is (f ∷ w ∷ more) command (flag_second name f w more v flag) read
  ]
]
  where
    value_dashes_said : (more : List Text) → reading (name ∷ f ∷ codes "--" ∷ more) ≡ Some command → w ≡ codes "--" → SaysCommand command (name ∷ f ∷ w ∷ more)
    value_dashes_said [] read dashes = subst (λ a. SaysCommand command (name ∷ f ∷ a ∷ [])) (sym dashes)
        (said name of is f (f ∷ codes "--" ∷ []) command (inr (inr (v, refl))) (is.before f v) read)
    value_dashes_said (u ∷ more) read dashes = absurd (none_some command (sym (is.fails (f ∷ codes "--" ∷ u ∷ more) (ap is_empty (value_dashes_word name f u more v))) ∙ read))

dashes_said : (name : Text) (of : Text → Command) (is : IsReadAs name of) (rest : List Text) (command : Command)
    → reading (name ∷ codes "--" ∷ rest) ≡ Some command → SaysCommand command (name ∷ codes "--" ∷ rest)
dashes_said name of is [] command read = unsaid name of is (codes "--" ∷ []) command (dashes_no_value name) read
dashes_said name of is (f ∷ []) command read = said name of is f (codes "--" ∷ f ∷ []) command (inr (inl refl)) (is.after f) read
dashes_said name of is (v ∷ u ∷ more) command read = unsaid name of is (codes "--" ∷ v ∷ u ∷ more) command (ap is_empty (dashes_two_words name v u more)) read

rest_said : (name : Text) (of : Text → Command) (is : IsReadAs name of) (rest : List Text) (command : Command) → All IsUtf8 rest
    → reading (name ∷ rest) ≡ Some command → SaysCommand command (name ∷ rest)
rest_said name of is [] command utf8 read = unsaid name of is [] command (no_value name) read
rest_said name of is (w ∷ more) command utf8 read = elim (word_kind w (utf8 0 [] (omega arith))) [
  | inl v ↦ value_said name of is w more command v (λ k d below. utf8 (suc k) d (omega arith)) read
  | inr other ↦ elim other [
    | inl dashes ↦ subst (λ a. SaysCommand command (name ∷ a ∷ more)) (sym dashes)
        (dashes_said name of is more command (subst (λ a. reading (name ∷ a ∷ more) ≡ Some command) dashes read))
    | inr flag ↦ unsaid name of is (w ∷ more) command (flag_first name w more flag) read
  ]
]

answer_after : (f : Text) → reading (codes "answer" ∷ codes "--" ∷ f ∷ []) ≡ Some (OverFarm f (Answer None))
unfolding clap_on_literals
answer_after f = refl

answer_alone : (f : Text) → IsValue f → reading (codes "answer" ∷ f ∷ []) ≡ Some (OverFarm f (Answer None))
unfolding clap_on_literals
answer_alone f v = value_cases (λ a. reading (codes "answer" ∷ a ∷ []) ≡ Some (OverFarm a (Answer None))) refl refl (λ x xs e. simp e) f v

answer_before : (f : Text) → IsValue f → reading (codes "answer" ∷ f ∷ codes "--" ∷ []) ≡ Some (OverFarm f (Answer None))
unfolding clap_on_literals
answer_before f v = value_cases (λ a. reading (codes "answer" ∷ a ∷ codes "--" ∷ []) ≡ Some (OverFarm a (Answer None))) refl refl (λ x xs e. simp e) f v

expand_after : (f : Text) → reading (codes "expand" ∷ codes "--" ∷ f ∷ []) ≡ Some (OverFarm f Expand)
unfolding clap_on_literals
expand_after f = refl

expand_alone : (f : Text) → IsValue f → reading (codes "expand" ∷ f ∷ []) ≡ Some (OverFarm f Expand)
unfolding clap_on_literals
expand_alone f v = value_cases (λ a. reading (codes "expand" ∷ a ∷ []) ≡ Some (OverFarm a Expand)) refl refl (λ x xs e. simp e) f v

expand_before : (f : Text) → IsValue f → reading (codes "expand" ∷ f ∷ codes "--" ∷ []) ≡ Some (OverFarm f Expand)
unfolding clap_on_literals
expand_before f v = value_cases (λ a. reading (codes "expand" ∷ a ∷ codes "--" ∷ []) ≡ Some (OverFarm a Expand)) refl refl (λ x xs e. simp e) f v

expand_fails : (rest : List Text) → is_empty (leaf_faults (codes "expand") rest) ≡ false → reading (codes "expand" ∷ rest) ≡ None
unfolding clap_on_literals
expand_fails rest fails =
    no_reading (codes "expand" ∷ rest) (fails_below farm_app (codes "expand" ∷ rest) (ap is_empty (ap (entered_fault (built farm_app)) (expand_stops rest)) ∙ fails))

expand_is : IsReadAs (codes "expand") (λ f. OverFarm f Expand)
expand_is = record { fails = expand_fails; alone = expand_alone; after = expand_after; before = expand_before; says = λ f rest gives. (refl, gives) }

check_after : (f : Text) → reading (codes "check" ∷ codes "--" ∷ f ∷ []) ≡ Some (OverFarm f (Check None))
unfolding clap_on_literals
check_after f = refl

check_alone : (f : Text) → IsValue f → reading (codes "check" ∷ f ∷ []) ≡ Some (OverFarm f (Check None))
unfolding clap_on_literals
check_alone f v = value_cases (λ a. reading (codes "check" ∷ a ∷ []) ≡ Some (OverFarm a (Check None))) refl refl (λ x xs e. simp e) f v

check_before : (f : Text) → IsValue f → reading (codes "check" ∷ f ∷ codes "--" ∷ []) ≡ Some (OverFarm f (Check None))
unfolding clap_on_literals
check_before f v = value_cases (λ a. reading (codes "check" ∷ a ∷ codes "--" ∷ []) ≡ Some (OverFarm a (Check None))) refl refl (λ x xs e. simp e) f v

-- ---- commands that take a disk

answer_goes : (rest : List Text) → reading (codes "answer" ∷ rest) ≡ reads (codes "answer") start rest
unfolding clap_on_literals
answer_goes rest = command_goes (codes "answer") rest (faults (codes "answer") start rest) (finished (args (codes "answer")) (end_of (codes "answer") start rest)) (answer_stops rest) refl refl refl refl

check_goes : (rest : List Text) → reading (codes "check" ∷ rest) ≡ reads (codes "check") start rest
unfolding clap_on_literals
check_goes rest = command_goes (codes "check") rest (faults (codes "check") start rest) (finished (args (codes "check")) (end_of (codes "check") start rest)) (check_stops rest) refl refl refl refl

answer_says : (rest : List Text) (command : Command) → Says (codes "answer") command rest → SaysCommand command (codes "answer" ∷ rest)
answer_says rest (OverFarm farm (Answer disk)) says = let is : says.0 ≡ disk = cc in (refl, subst (λ (d : Option Text). Gives farm d rest) is says.2)
answer_says rest (OverFarm farm Expand) says = cc
answer_says rest (OverFarm farm (Check disk)) says = cc
answer_says rest (OverFarm farm (Serve service)) says = cc
answer_says rest (Sign signing) says = tt
answer_says rest (Bulk load) says = tt
answer_says rest Render says = absurd says

check_says : (rest : List Text) (command : Command) → Says (codes "check") command rest → SaysCommand command (codes "check" ∷ rest)
check_says rest (OverFarm farm (Serve service)) says = cc
check_says rest (OverFarm farm (Answer disk)) says = cc
check_says rest (OverFarm farm Expand) says = cc
check_says rest (OverFarm farm (Check disk)) says = let is : says.0 ≡ disk = cc in (refl, subst (λ (d : Option Text). Gives farm d rest) is says.2)
check_says rest (Sign signing) says = tt
check_says rest (Bulk load) says = tt
check_says rest Render says = absurd says

answer_said : (rest : List Text) (command : Command) → All IsUtf8 rest → reading (codes "answer" ∷ rest) ≡ Some command → SaysCommand command (codes "answer" ∷ rest)
answer_said rest command utf8 read = answer_says rest command (start_said (codes "answer") rest command utf8 (sym (answer_goes rest) ∙ read))

check_said : (rest : List Text) (command : Command) → All IsUtf8 rest → reading (codes "check" ∷ rest) ≡ Some command → SaysCommand command (codes "check" ∷ rest)
check_said rest command utf8 read = check_says rest command (start_said (codes "check") rest command utf8 (sym (check_goes rest) ∙ read))

-- ---- sign

taken : (b : Bool) (o : Option Command) (command : Command) → cond b o None ≡ Some command → o ≡ Some command
taken true o command e = e
taken false o command e = absurd (none_some command e)

other_command : {s : Signing} (farm : Text) (work : Work) → Some (Sign s) ≡ Some (OverFarm farm work) → ⊥
other_command farm work e = cc

sign_command : (o : Option Signing) (words : List Text) (command : Command) → option_map (λ s. Sign s) o ≡ Some command → SaysCommand command words
sign_command None words command e = absurd (none_some command e)
sign_command (Some s) words (OverFarm farm work) e = absurd (other_command farm work e)
sign_command (Some s) words (Sign signing) e = tt
sign_command (Some s) words (Bulk load) e = tt
sign_command (Some s) words Render e = cc

sign_said : (rest : List Text) (command : Command) → reading (codes "sign" ∷ rest) ≡ Some command → SaysCommand command (codes "sign" ∷ rest)
unfolding clap_on_literals
sign_said rest command read =
    let met = taken (is_empty (fault_of farm_app (codes "sign" ∷ rest))) (option_and_then command_in (subcommand_of farm_app (codes "sign" ∷ rest))) command read in
    sign_command _ (codes "sign" ∷ rest) command (sym (ap (λ stop. option_and_then command_in (entered (built farm_app) stop)) (sign_stops rest)) ∙ met)

-- ---- bulk

load_command : (l : Load) (farm : Text) (work : Work) → Some (Bulk l) ≡ Some (OverFarm farm work) → ⊥
load_command l farm work e = cc

bulk_command : (o : Option Load) (words : List Text) (command : Command) → option_map (λ l. Bulk l) o ≡ Some command → SaysCommand command words
bulk_command None words command e = absurd (none_some command e)
bulk_command (Some l) words (OverFarm farm work) e = absurd (load_command l farm work e)
bulk_command (Some l) words (Sign signing) e = tt
bulk_command (Some l) words (Bulk load) e = tt
bulk_command (Some l) words Render e = cc

bulk_said : (rest : List Text) (command : Command) → reading (codes "bulk" ∷ rest) ≡ Some command → SaysCommand command (codes "bulk" ∷ rest)
unfolding clap_on_literals
bulk_said rest command read =
    let met = taken (is_empty (fault_of farm_app (codes "bulk" ∷ rest))) (option_and_then command_in (subcommand_of farm_app (codes "bulk" ∷ rest))) command read in
    bulk_command _ (codes "bulk" ∷ rest) command (sym (ap (λ stop. option_and_then command_in (entered (built farm_app) stop)) (bulk_stops rest)) ∙ met)

-- ---- render

render_only : (farm : Text) (work : Work) → Some Render ≡ Some (OverFarm farm work) → ⊥
render_only farm work e = cc

render_command : (rest : List Text) (command : Command) → EndsOptions rest → reading (codes "render" ∷ rest) ≡ Some command → SaysCommand command (codes "render" ∷ rest)
render_command rest (OverFarm farm work) ends read = absurd (render_only farm work (sym (render_read rest ends) ∙ read))
render_command rest (Sign signing) ends read = tt
render_command rest (Bulk load) ends read = tt
render_command rest Render ends read = (refl, ends)

render_said : (rest : List Text) (command : Command) → All IsUtf8 rest → reading (codes "render" ∷ rest) ≡ Some command → SaysCommand command (codes "render" ∷ rest)
render_said rest command utf8 read = render_command rest command (render_ends rest command utf8 read) read

pub says_render_read : (words : List Text) → SaysRender words → reading words ≡ Some Render
says_render_read [] says = absurd says
says_render_read (w ∷ rest) says = subst (λ a. reading (a ∷ rest) ≡ Some Render) (sym says.0) (render_read rest says.1)

-- ---- serve

serve_said : (rest : List Text) (command : Command) → All IsUtf8 rest → reading (codes "serve" ∷ rest) ≡ Some command → SaysCommand command (codes "serve" ∷ rest)
serve_said rest command utf8 read =
    let says = service_said rest command utf8 read in
    subst (λ (k : Command). SaysCommand k (codes "serve" ∷ rest)) (sym says.2) (refl, says.3)

-- ---- both ways

pub reading_says : (words : List Text) (command : Command) → All IsUtf8 words → reading words ≡ Some command → SaysCommand command words
reading_says [] command utf8 read = absurd (none_some command (sym empty_read ∙ read))
reading_says (w ∷ rest) command utf8 read = elim (first_named w rest command (utf8 0 [] (omega arith)) read) [
  | inl a ↦ named (codes "answer") a (answer_said rest command others)
  | inr (inl e) ↦ named (codes "expand") e (rest_said (codes "expand") (λ f. OverFarm f Expand) expand_is rest command others)
  | inr (inr (inl c)) ↦ named (codes "check") c (check_said rest command others)
  | inr (inr (inr (inl s))) ↦ named (codes "sign") s (sign_said rest command)
  | inr (inr (inr (inr (inl b)))) ↦ named (codes "bulk") b (bulk_said rest command)
  | inr (inr (inr (inr (inr (inl r))))) ↦ named (codes "render") r (render_said rest command others)
  | inr (inr (inr (inr (inr (inr v))))) ↦ named (codes "serve") v (serve_said rest command others)
]
  where
    others : All IsUtf8 rest
    others = λ k d below. utf8 (suc k) d (omega arith)

    named : (name : Text) → bytes_eq name w ≡ true → (reading (name ∷ rest) ≡ Some command → SaysCommand command (name ∷ rest)) → SaysCommand command (w ∷ rest)
    named name same go = subst (λ (v : Text). (reading (v ∷ rest) ≡ Some command → SaysCommand command (v ∷ rest))) ((bytes_eq-Decides name w).0 same) go read

given_read : (name : Text) (of : Text → Command) (f : Text) (rest : List Text) → (IsValue f → reading (name ∷ f ∷ []) ≡ Some (of f)) → reading (name ∷ codes "--" ∷ f ∷ []) ≡ Some (of f)
    → (IsValue f → reading (name ∷ f ∷ codes "--" ∷ []) ≡ Some (of f)) → GivesValue f rest → reading (name ∷ rest) ≡ Some (of f)
given_read name of f rest alone after before (inl p) = subst (λ words. reading (name ∷ words) ≡ Some (of f)) (sym p.1) (alone p.0)
given_read name of f rest alone after before (inr (inl e)) = subst (λ words. reading (name ∷ words) ≡ Some (of f)) (sym e) after
given_read name of f rest alone after before (inr (inr p)) = subst (λ words. reading (name ∷ words) ≡ Some (of f)) (sym p.1) (before p.0)

pub said_read : (words : List Text) (farm : Text) (work : Work) → SaysWork farm work words → reading words ≡ Some (OverFarm farm work)
said_read [] farm work says = absurd says
said_read (w ∷ rest) f (Answer None) says =
    subst (λ a. reading (a ∷ rest) ≡ Some (OverFarm f (Answer None))) (sym says.0)
    (given_read (codes "answer") (λ f. OverFarm f (Answer None)) f rest (answer_alone f) (answer_after f) (answer_before f) says.1)
said_read (w ∷ rest) f (Answer (Some d)) says =
    subst (λ a. reading (a ∷ rest) ≡ Some (OverFarm f (Answer (Some d)))) (sym says.0) (answer_goes rest ∙ both_read (codes "answer") f d rest says.1)
said_read (w ∷ rest) f Expand says =
    subst (λ a. reading (a ∷ rest) ≡ Some (OverFarm f Expand)) (sym says.0) (given_read (codes "expand") (λ f. OverFarm f Expand) f rest (expand_alone f) (expand_after f) (expand_before f) says.1)
said_read (w ∷ rest) f (Check None) says =
    subst (λ a. reading (a ∷ rest) ≡ Some (OverFarm f (Check None))) (sym says.0)
    (given_read (codes "check") (λ f. OverFarm f (Check None)) f rest (check_alone f) (check_after f) (check_before f) says.1)
said_read (w ∷ rest) f (Serve service) says =
    subst (λ a. reading (a ∷ rest) ≡ Some (OverFarm f (Serve service))) (sym says.0) (service_read rest f service says.1)
said_read (w ∷ rest) f (Check (Some d)) says =
    subst (λ a. reading (a ∷ rest) ≡ Some (OverFarm f (Check (Some d)))) (sym says.0) (check_goes rest ∙ both_read (codes "check") f d rest says.1)
