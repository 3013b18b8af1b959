-- Which words are read as `serve`.
use Rattle.std.proofs.Common.{◌≡◌, ◌⊎◌, ◌∙◌, ◌<◌, ℕ, Bool, append-nil, append_assoc, true, false, suc, zero, refl, sym, ap, subst, arith, inl, inr, List, [], ◌∷◌, ◌++◌, Option, Some, None, codes, length, option_map, option_and_then}
use Rattle.std.specs.Prelude.{◌||◌, IsUtf8}
use Rattle.std.specs.List.{All}
use Rattle.std.specs.Str.{bytes_eq}
use Rattle.std.proofs.lemmas.Bool.{or_from, or_parts}
use Rattle.std.proofs.lemmas.Slice.Eq.{bytes_eq-Decides}
use Rattle.clap.specs.Words.{Kinds, Row, Rule, Text}
use Rattle.clap.specs.Faults.{use_fault}
use Rattle.clap.specs.Kinds.{or_else}
use Rattle.clap.specs.Walk.{Held, finished, idle, is_empty, option, settled, used}
use Rattle.clap.proofs.OnLiterals.{clap_on_literals}
use Rattle.command_line.proofs.CommandLemmas.{command_goes}
use Rattle.command_line.proofs.FaultLemmas.{none_some, or_left}
use Rattle.command_line.proofs.FlagLemmas.{IsFlag, word_kind}
use Rattle.command_line.proofs.LawLemmas.{serve_stops}
use Rattle.command_line.proofs.ServeOptionLemmas.{IsOption, bad_unread, behind_goes, behind_unread, dashes, dashes_step, farm_goes, flag_kind, named_goes, option_is, stray_unread, value_goes, waited}
use Rattle.command_line.proofs.ServeWalkLemmas.{Settles, args, command_of, end_of, end_read, ends, fails, farm_id, farm_is, farm_rule, faults, held, nothing_pends, one_more, one_pends, named_row, reads, rows_for, second_bad, stands, steps}
use Rattle.command_line.specs.Options.{EndsOptions, IsValue}
use Rattle.command_line.specs.ServeForms.{AreApart, GiveAll, Given, GivesOne, GivesService, IsServeOption, IsService, is_named, said}
use Rattle.command_line.specs.Service.{connections_said, workers_said}
use Rattle.command_line.specs.Words.{reading}
use Rattle.command_line.specs.declared.command.Command.{Command}
use Rattle.command_line.specs.declared.command.Command.TheVariants.{OverFarm}
use Rattle.command_line.specs.declared.command.Work.TheVariants.{Serve}
use Rattle.command_line.specs.declared.service.Service.{Service}

-- ---- what is given, one more at the end

eq_back : (a b : Text) → bytes_eq a b ≡ false → bytes_eq b a ≡ false
eq_back a b other = go (bytes_eq b a) refl
  where
    go : (c : Bool) → bytes_eq b a ≡ c → c ≡ false
    go false e = refl
    go true e = let yes : bytes_eq a b ≡ true = (bytes_eq-Decides a b).1 (sym ((bytes_eq-Decides b a).0 e)) in cc

named_more : (name : Text) (given more : List Given) → is_named name (given ++ more) ≡ (is_named name given || is_named name more)
named_more name [] more = refl
named_more name (g ∷ given) more = go (bytes_eq g.0 name) (named_more name given more)
  where
    go : (b : Bool) → is_named name (given ++ more) ≡ (is_named name given || is_named name more) → (b || is_named name (given ++ more)) ≡ ((b || is_named name given) || is_named name more)
    go true e = refl
    go false e = e

-- the next is not given yet
next_apart : (given : List Given) (g : Given) (more : List Given) → AreApart (given ++ g ∷ more) → is_named g.0 given ≡ false
next_apart [] g more apart = refl
next_apart (x ∷ given) g more apart =
    let others = or_parts (is_named x.0 given) (is_named x.0 (g ∷ more)) (sym (named_more x.0 given (g ∷ more)) ∙ apart.0) in
    or_from (bytes_eq x.0 g.0) (is_named g.0 given) (eq_back g.0 x.0 (or_parts (bytes_eq g.0 x.0) (is_named x.0 more) others.1).0) (next_apart given g more apart.1)

one_apart : (given : List Given) (g : Given) → AreApart given → is_named g.0 given ≡ false → AreApart (given ++ g ∷ [])
one_apart [] g apart none = (refl, tt)
one_apart (x ∷ given) g apart none =
    let others = or_parts (bytes_eq x.0 g.0) (is_named g.0 given) none in (
      named_more x.0 given (g ∷ []) ∙ or_from (is_named x.0 given) (is_named x.0 (g ∷ [])) apart.0 (or_from (bytes_eq g.0 x.0) false (eq_back x.0 g.0 others.0) refl),
      one_apart given g apart.1 others.1,
    )

false_true : {T : Type 0} → false ≡ true → T
false_true e = absurd (let no : ⊥ = cc in no)

or_end : (b : Bool) → (b || true) ≡ true
or_end true = refl
or_end false = refl

-- after FARM it is there, and an option leaves that as it is
farm_named : (given : List Given) (value : Text) → is_named farm_id (given ++ (farm_id, value) ∷ []) ≡ true
farm_named given value = named_more farm_id given ((farm_id, value) ∷ []) ∙ or_end (is_named farm_id given)

other_name : (id : Text) → IsServeOption id → bytes_eq id farm_id ≡ false
other_name id (inl e) = ap (λ (i : Text). bytes_eq i farm_id) e
other_name id (inr (inl e)) = ap (λ (i : Text). bytes_eq i farm_id) e
other_name id (inr (inr (inl e))) = ap (λ (i : Text). bytes_eq i farm_id) e
other_name id (inr (inr (inr e))) = ap (λ (i : Text). bytes_eq i farm_id) e

or_false : (b : Bool) → (b || false) ≡ b
or_false true = refl
or_false false = refl

option_named : (given : List Given) (id value : Text) → IsServeOption id → is_named farm_id (given ++ (id, value) ∷ []) ≡ is_named farm_id given
option_named given id value which =
    named_more farm_id given ((id, value) ∷ []) ∙ (ap (λ (b : Bool). is_named farm_id given || (b || false)) (other_name id which) ∙ or_false (is_named farm_id given))

-- ---- one word or two further

attached_goes : (rule : Rule) (id value : Text) (rows : List Row) (pending : Option (Text × List Text)) (given : List Given) (farm : Bool) (words : List Text) → IsOption rule id → Settles rows pending given
    → is_named id given ≡ false → reads (stands (held rows pending) idle farm false) (dashes (id ++ 61 ∷ value) ∷ words) ≡ reads (stands (held (rows_for (given ++ (id, value) ∷ [])) None) idle farm false) words
attached_goes rule id value rows pending given farm words is settles none =
    let h : Held = held rows pending in
    let row : (settled args h).rows ≡ rows_for given = ap (λ (k : Held). k.rows) settles.1 in
    steps (stands h idle farm false) (stands (held (rows_for (given ++ (id, value) ∷ [])) None) idle farm false) (dashes (id ++ 61 ∷ value)) words
    (is.attached_turn value h farm ∙ ap (λ (k : Kinds). or_else k [])
    (ap (λ (k : Kinds). or_else k (use_fault false rule (value ∷ []) (settled args h).rows)) settles.0
    ∙ (ap (λ (r : List Row). use_fault false rule (value ∷ []) r) row ∙ is.is.use_free value (rows_for given) (named_row id given ∙ none))))
    (is.attached_walk value h farm ∙ ap (λ (r : List Row). stands (held r None) idle farm false)
    (ap (λ (r : List Row). used rule (value ∷ []) r) row ∙ (is.is.uses value (rows_for given) ∙ one_more (id, value) given none)))

attached_again : (rule : Rule) (id value : Text) (rows : List Row) (pending : Option (Text × List Text)) (given : List Given) (farm : Bool) (words : List Text) → IsOption rule id → Settles rows pending given
    → is_named id given ≡ true → reads (stands (held rows pending) idle farm false) (dashes (id ++ 61 ∷ value) ∷ words) ≡ None
attached_again rule id value rows pending given farm words is settles has =
    let h : Held = held rows pending in
    let row : (settled args h).rows ≡ rows_for given = ap (λ (k : Held). k.rows) settles.1 in
    fails (stands h idle farm false) (dashes (id ++ 61 ∷ value)) words
    (ap is_empty (is.attached_turn value h farm ∙ ap (λ (k : Kinds). or_else (or_else k (use_fault false rule (value ∷ []) (settled args h).rows)) []) settles.0)
    ∙ or_left _ [] (ap (λ (r : List Row). is_empty (use_fault false rule (value ∷ []) r)) row ∙ is.is.use_taken value (rows_for given) (named_row id given ∙ has)))

-- ---- words that are read say it

-- the words go on from what was given, and are read as this command
abbrev Continues : List Given → List Text → Command → Type 0
Continues given words command = (more : List Given) × GiveAll more words × AreApart (given ++ more) × (ends (given ++ more) ≡ Some command)

unread : {T : Type 0} (read : Option Command) (command : Command) → read ≡ None → read ≡ Some command → T
unread read command none some = absurd (none_some command (sym none ∙ some))

stops : (given : List Given) (words : List Text) (command : Command) → EndsOptions words → AreApart given → ends given ≡ Some command → Continues given words command
stops given words command is apart read =
    let all : given ≡ given ++ [] = sym (append-nil given) in
    ([], is, subst AreApart all apart, subst (λ (l : List Given). ends l ≡ Some command) all read)

joins : (given : List Given) (g : Given) (piece rest words : List Text) (command : Command) → words ≡ piece ++ rest → GivesOne g piece → Continues (given ++ g ∷ []) rest command
    → Continues given words command
joins given g piece rest words command are one goes =
    let all : (given ++ g ∷ []) ++ goes.0 ≡ given ++ (g ∷ goes.0) = append_assoc given (g ∷ []) goes.0 in
    (g ∷ goes.0, inr (piece, rest, are, one, goes.1), subst AreApart all goes.2, subst (λ (l : List Given). ends l ≡ Some command) all goes.3)

-- what has to be shown of words
abbrev IsSaid : List Text → Type 0
IsSaid words = (given : List Given) (farm : Bool) (rows : List Row) (pending : Option (Text × List Text)) (command : Command) → Settles rows pending given → is_named farm_id given ≡ farm → AreApart given
    → All IsUtf8 words → reads (stands (held rows pending) idle farm false) words ≡ Some command → Continues given words command

behind_said : (words : List Text) (given : List Given) (farm : Bool) (rows : List Row) (pending : Option (Text × List Text)) (command : Command) → Settles rows pending given → is_named farm_id given ≡ farm
    → AreApart given → reads (stands (held rows pending) idle farm true) words ≡ Some command → Continues given (codes "--" ∷ words) command
behind_said [] given farm rows pending command settles is apart read = stops given (codes "--" ∷ []) command (inr refl) apart (sym (end_read rows pending idle farm true given settles) ∙ read)
behind_said (w ∷ words) given true rows pending command settles is apart read = unread _ command (behind_unread (held rows pending) w words) read
behind_said (w ∷ []) given false rows pending command settles is apart read =
    let g : Given = (farm_id, w) in
    let last : reads (stands (held (rows_for given) (Some (farm_id, w ∷ []))) idle true true) [] ≡ ends (given ++ g ∷ []) =
    end_read (rows_for given) (Some (farm_id, w ∷ [])) idle true true (given ++ g ∷ []) (one_pends farm_rule g given farm_is is) in
    (g ∷ [], inl (refl, refl, refl), one_apart given g apart is, sym (behind_goes rows pending given w [] settles ∙ last) ∙ read)
behind_said (w ∷ x ∷ words) given false rows pending command settles is apart read =
    unread _ command (behind_goes rows pending given w (x ∷ words) settles ∙ behind_unread (held (rows_for given) (Some (farm_id, w ∷ []))) x words) read

farm_said : (w : Text) (words : List Text) → IsSaid words → IsValue w → IsSaid (w ∷ words)
farm_said w words later v given true rows pending command settles is apart utf8 read = unread _ command (stray_unread (held rows pending) w words v) read
farm_said w words later v given false rows pending command settles is apart utf8 read =
    let g : Given = (farm_id, w) in
    joins given g (w ∷ []) words (w ∷ words) command refl (inl (refl, v, refl))
    (later (given ++ g ∷ []) true (rows_for given) (Some (farm_id, w ∷ [])) command (one_pends farm_rule g given farm_is is) (farm_named given w) (one_apart given g apart is)
    (λ k d below. utf8 (suc k) d (omega arith)) (sym (farm_goes rows pending given w words settles v) ∙ read))

attached_said : (id value : Text) (words : List Text) → IsSaid words → IsServeOption id → IsSaid (dashes (id ++ 61 ∷ value) ∷ words)
attached_said id value words later which given farm rows pending command settles is apart utf8 read = go (is_named id given) refl
  where
    g : Given
    g = (id, value)

    go : (b : Bool) → is_named id given ≡ b → Continues given (dashes (id ++ 61 ∷ value) ∷ words) command
    go true has = unread _ command (attached_again (option_is id which).0 id value rows pending given farm words (option_is id which).1 settles has) read
    go false none =
        joins given g (dashes (id ++ 61 ∷ value) ∷ []) words (dashes (id ++ 61 ∷ value) ∷ words) command refl (inr (which, inr refl))
        (later (given ++ g ∷ []) farm (rows_for (given ++ g ∷ [])) None command (nothing_pends (given ++ g ∷ [])) (option_named given id value which ∙ is) (one_apart given g apart none)
        (λ k d below. utf8 (suc k) d (omega arith)) (sym (attached_goes (option_is id which).0 id value rows pending given farm words (option_is id which).1 settles none) ∙ read))

named_said : (id value : Text) (words : List Text) → IsSaid words → IsServeOption id → IsValue value → IsSaid (dashes id ∷ value ∷ words)
named_said id value words later which v given farm rows pending command settles is apart utf8 read = go (is_named id given) refl
  where
    g : Given
    g = (id, value)

    rule : Rule
    rule = (option_is id which).0

    is_option : IsOption rule id
    is_option = (option_is id which).1

    after : All IsUtf8 words
    after = λ k d below. utf8 (suc (suc k)) d (omega arith)

    goes : reads (stands (held rows pending) idle farm false) (dashes id ∷ value ∷ words) ≡ reads (stands (held (rows_for given) (Some (id, value ∷ []))) idle farm false) words
    goes = named_goes rule id rows pending given farm (value ∷ words) is_option settles ∙ value_goes rule id (rows_for given) farm value words is_option v

    go : (b : Bool) → is_named id given ≡ b → Continues given (dashes id ∷ value ∷ words) command
    go true has = unread _ command (goes ∙ bad_unread (rows_for given) (Some (id, value ∷ [])) (second_bad rule g given is_option.is has) farm words after) read
    go false none =
        joins given g (dashes id ∷ value ∷ []) words (dashes id ∷ value ∷ words) command refl (inr (which, inl (v, refl)))
        (later (given ++ g ∷ []) farm (rows_for given) (Some (id, value ∷ [])) command (one_pends rule g given is_option.is none) (option_named given id value which ∙ is) (one_apart given g apart none)
        after (sym goes ∙ read))

-- words are said if all shorter ones are
abbrev AreShorterSaid : List Text → Type 0
AreShorterSaid words = (shorter : List Text) → length shorter < length words → IsSaid shorter

flag_said : (w : Text) (words : List Text) → AreShorterSaid (w ∷ words) → IsFlag w → IsSaid (w ∷ words)
flag_said w words later flag given farm rows pending command settles is apart utf8 read = elim (flag_kind w flag) [
  | inl (id, which, inl are) ↦ named id which are (waited (option_is id which).0 id (rows_for given) farm words (option_is id which).1 (λ k d below. utf8 (suc k) d (omega arith)))
  | inl (id, which, inr (value, are)) ↦
      subst (λ a. IsSaid (a ∷ words)) (sym are) (attached_said id value words (later words (omega arith)) which) given farm rows pending command settles is apart utf8 read
  | inr other ↦ unread _ command (fails (stands (held rows pending) idle farm false) w words (or_left _ _ (other rows pending))) read
]
  where
    named : (id : Text) → IsServeOption id → w ≡ dashes id
        → (reads (stands (held (rows_for given) (Some (id, []))) (option id) farm false) words ≡ None) ⊎ ((value : Text) × (more : List Text) × IsValue value × (words ≡ value ∷ more))
        → Continues given (w ∷ words) command
    named id which are (inl none) =
        unread _ command (named_goes (option_is id which).0 id rows pending given farm words (option_is id which).1 settles ∙ none)
        (subst (λ a. reads (stands (held rows pending) idle farm false) (a ∷ words) ≡ Some command) are read)
    named id which are (inr (value, more, v, behind)) =
        let long : length words ≡ length (value ∷ more) = ap length behind in
        let said : IsSaid (dashes id ∷ value ∷ more) = named_said id value more (later more (omega (arith, long))) which v in
        subst (λ a. IsSaid (a ∷ words)) (sym are) (subst (λ (l : List Text). IsSaid (dashes id ∷ l)) (sym behind) said) given farm rows pending command settles is apart utf8 read

words_said : (words : List Text) → AreShorterSaid words → IsSaid words
words_said [] later given farm rows pending command settles is apart utf8 read = stops given [] command (inl refl) apart (sym (end_read rows pending idle farm false given settles) ∙ read)
words_said (w ∷ words) later given farm rows pending command settles is apart utf8 read = elim (word_kind w (utf8 0 [] (omega arith))) [
  | inl v ↦ farm_said w words (later words (omega arith)) v given farm rows pending command settles is apart utf8 read
  | inr (inl are) ↦ subst (λ a. Continues given (a ∷ words) command) (sym are)
      (behind_said words given farm rows pending command settles is apart
      (sym (dashes_step (held rows pending) farm words) ∙ subst (λ a. reads (stands (held rows pending) idle farm false) (a ∷ words) ≡ Some command) are read))
  | inr (inr flag) ↦ flag_said w words later flag given farm rows pending command settles is apart utf8 read
]

all_said : (n : ℕ) (words : List Text) → length words < n → IsSaid words
all_said zero words short = absurd (omega (arith, short))
all_said (suc n) words short = words_said words (λ shorter less. all_said n shorter (omega (arith, short, less)))

-- ---- and words that say it are read so

-- what has to be shown of what is given
abbrev IsReadOf : List Given → Type 0
IsReadOf more = (words : List Text) (given : List Given) (farm : Bool) (rows : List Row) (pending : Option (Text × List Text)) → Settles rows pending given → is_named farm_id given ≡ farm → AreApart (given ++ more)
    → GiveAll more words → reads (stands (held rows pending) idle farm false) words ≡ ends (given ++ more)

nothing_read : IsReadOf []
nothing_read words given farm rows pending settles is apart (inl none) =
    subst (λ (l : List Text). reads (stands (held rows pending) idle farm false) l ≡ ends (given ++ [])) (sym none) (end_read rows pending idle farm false given settles ∙ ap ends (sym (append-nil given)))
nothing_read words given farm rows pending settles is apart (inr are) =
    subst (λ (l : List Text). reads (stands (held rows pending) idle farm false) l ≡ ends (given ++ [])) (sym are)
    (dashes_step (held rows pending) farm [] ∙ (end_read rows pending idle farm true given settles ∙ ap ends (sym (append-nil given))))

-- FARM behind `--`
last_read : (g : Given) (given : List Given) (farm : Bool) (rows : List Row) (pending : Option (Text × List Text)) → Settles rows pending given → is_named farm_id given ≡ farm → is_named g.0 given ≡ false
    → g.0 ≡ farm_id → reads (stands (held rows pending) idle farm false) (codes "--" ∷ g.1 ∷ []) ≡ ends (given ++ g ∷ [])
last_read g given true rows pending settles is none named = false_true (sym (ap (λ (n : Text). is_named n given) (sym named) ∙ none) ∙ is)
last_read g given false rows pending settles is none named =
    dashes_step (held rows pending) false (g.1 ∷ []) ∙ (behind_goes rows pending given g.1 [] settles
    ∙ (end_read (rows_for given) (Some (farm_id, g.1 ∷ [])) idle true true (given ++ (farm_id, g.1) ∷ []) (one_pends farm_rule (farm_id, g.1) given farm_is is)
    ∙ ap (λ (n : Text). ends (given ++ (n, g.1) ∷ [])) (sym named)))

module _ (id value : Text) (rest : List Text) (given more : List Given) (rows : List Row) (pending : Option (Text × List Text)) (settles : Settles rows pending given) (none : is_named id given ≡ false)
    (apart : AreApart ((given ++ (id, value) ∷ []) ++ more)) (gives : GiveAll more rest) (later : IsReadOf more) where
  farm_read : (farm : Bool) → is_named farm_id given ≡ farm → id ≡ farm_id → IsValue value → reads (stands (held rows pending) idle farm false) (value ∷ rest) ≡ ends ((given ++ (id, value) ∷ []) ++ more)
  farm_read true is named v = false_true (sym (ap (λ (n : Text). is_named n given) (sym named) ∙ none) ∙ is)
  farm_read false is named v =
      let g : Given = (farm_id, value) in
      let alike : given ++ (id, value) ∷ [] ≡ given ++ g ∷ [] = ap (λ (n : Text). given ++ (n, value) ∷ []) named in
      farm_goes rows pending given value rest settles v
      ∙ (later rest (given ++ g ∷ []) true (rows_for given) (Some (farm_id, value ∷ [])) (one_pends farm_rule g given farm_is is) (farm_named given value) (subst (λ (l : List Given). AreApart (l ++ more)) alike apart) gives
      ∙ ap (λ (l : List Given). ends (l ++ more)) (sym alike))

  named_read : (farm : Bool) → is_named farm_id given ≡ farm → IsServeOption id → IsValue value
      → reads (stands (held rows pending) idle farm false) (dashes id ∷ value ∷ rest) ≡ ends ((given ++ (id, value) ∷ []) ++ more)
  named_read farm is which v =
      let rule = option_is id which in
      named_goes rule.0 id rows pending given farm (value ∷ rest) rule.1 settles
      ∙ (value_goes rule.0 id (rows_for given) farm value rest rule.1 v
      ∙ later rest (given ++ (id, value) ∷ []) farm (rows_for given) (Some (id, value ∷ [])) (one_pends rule.0 (id, value) given rule.1.is none) (option_named given id value which ∙ is) apart gives)

  attached_read : (farm : Bool) → is_named farm_id given ≡ farm → IsServeOption id
      → reads (stands (held rows pending) idle farm false) (dashes (id ++ 61 ∷ value) ∷ rest) ≡ ends ((given ++ (id, value) ∷ []) ++ more)
  attached_read farm is which =
      let rule = option_is id which in
      attached_goes rule.0 id value rows pending given farm rest rule.1 settles none
      ∙ later rest (given ++ (id, value) ∷ []) farm (rows_for (given ++ (id, value) ∷ [])) None (nothing_pends (given ++ (id, value) ∷ [])) (option_named given id value which ∙ is) apart gives

  one_read : (piece : List Text) (farm : Bool) → is_named farm_id given ≡ farm → GivesOne (id, value) piece → reads (stands (held rows pending) idle farm false) (piece ++ rest) ≡ ends ((given ++ (id, value) ∷ []) ++ more)
  one_read piece farm is (inl (named, v, are)) =
      subst (λ (l : List Text). reads (stands (held rows pending) idle farm false) (l ++ rest) ≡ ends ((given ++ (id, value) ∷ []) ++ more)) (sym are) (farm_read farm is named v)
  one_read piece farm is (inr (which, inl (v, are))) =
      subst (λ (l : List Text). reads (stands (held rows pending) idle farm false) (l ++ rest) ≡ ends ((given ++ (id, value) ∷ []) ++ more)) (sym are) (named_read farm is which v)
  one_read piece farm is (inr (which, inr are)) =
      subst (λ (l : List Text). reads (stands (held rows pending) idle farm false) (l ++ rest) ≡ ends ((given ++ (id, value) ∷ []) ++ more)) (sym are) (attached_read farm is which)

next_read : (g : Given) (more : List Given) → IsReadOf more → IsReadOf (g ∷ more)
next_read g more later words given farm rows pending settles is apart (inl (none, named, are)) =
    subst (λ (l : List Text). reads (stands (held rows pending) idle farm false) l ≡ ends (given ++ g ∷ more)) (sym are)
    (last_read g given farm rows pending settles is (next_apart given g more apart) named ∙ ap (λ (l : List Given). ends (given ++ g ∷ l)) (sym none))
next_read g more later words given farm rows pending settles is apart (inr (piece, rest, are, one, gives)) =
    let all : (given ++ g ∷ []) ++ more ≡ given ++ (g ∷ more) = append_assoc given (g ∷ []) more in
    subst (λ (l : List Text). reads (stands (held rows pending) idle farm false) l ≡ ends (given ++ g ∷ more)) (sym are)
    (one_read g.0 g.1 rest given more rows pending settles (next_apart given g more apart) (subst AreApart (sym all) apart) gives later piece farm is one ∙ ap ends all)

all_read : (more : List Given) → IsReadOf more
all_read [] = nothing_read
all_read (g ∷ more) = next_read g more (all_read more)

-- ---- what is said, and the command

-- the command is this service over this farm file
record IsTold (farm disk listen workers connections : Option Text) (f : Text) (s : Service) : Type 0 where
  farm_file : farm ≡ Some f
  disk_name : disk ≡ Some s.disk
  address : listen ≡ Some s.listen
  number : workers_said workers ≡ Some s.workers
  each : connections_said connections ≡ Some s.connections

of_numbers : (f d l : Text) (w c : Option ℕ) (command : Command)
    → option_map (λ (s : Service). OverFarm f (Serve s)) (option_and_then (λ (n : ℕ). option_map (λ (m : ℕ). record { disk = d; listen = l; workers = n; connections = m }) c) w) ≡ Some command
    → (s : Service) × (OverFarm f (Serve s) ≡ command) × (s.disk ≡ d) × (s.listen ≡ l) × (w ≡ Some s.workers) × (c ≡ Some s.connections)
of_numbers f d l None c command e = absurd (none_some command e)
of_numbers f d l (Some n) None command e = absurd (none_some command e)
of_numbers f d l (Some n) (Some m) command e = (record { disk = d; listen = l; workers = n; connections = m }, one _ command e, refl, refl, refl, refl)
  where
    one : (a b : Command) → Some a ≡ Some b → a ≡ b
    one a b e = cc

told_is : (farm disk listen workers connections : Option Text) (command : Command) → command_of farm disk listen workers connections ≡ Some command
    → (f : Text) × (s : Service) × (command ≡ OverFarm f (Serve s)) × IsTold farm disk listen workers connections f s
told_is None disk listen workers connections command e = absurd (none_some command e)
told_is (Some f) None listen workers connections command e = absurd (none_some command e)
told_is (Some f) (Some d) None workers connections command e = absurd (none_some command e)
told_is (Some f) (Some d) (Some l) workers connections command e =
    let of = of_numbers f d l (workers_said workers) (connections_said connections) command e in
    (f, of.0, sym of.1, record { farm_file = refl; disk_name = ap Some (sym of.2); address = ap Some (sym of.3); number = of.4; each = of.5 })

is_told : (farm disk listen workers connections : Option Text) (f : Text) (s : Service) → IsTold farm disk listen workers connections f s → command_of farm disk listen workers connections ≡ Some (OverFarm f (Serve s))
is_told farm disk listen workers connections f s is =
    ap (λ (o : Option Text). command_of o disk listen workers connections) is.farm_file
    ∙ (ap (λ (o : Option Text). command_of (Some f) o listen workers connections) is.disk_name
    ∙ (ap (λ (o : Option Text). command_of (Some f) (Some s.disk) o workers connections) is.address
    ∙ (ap (λ (o : Option ℕ). option_map (λ (s : Service). OverFarm f (Serve s)) (option_and_then (λ (n : ℕ). option_map (λ (m : ℕ). record { disk = s.disk; listen = s.listen; workers = n; connections = m }) (connections_said connections)) o)) is.number
    ∙ ap (λ (o : Option ℕ). option_map (λ (s : Service). OverFarm f (Serve s)) (option_map (λ (m : ℕ). record { disk = s.disk; listen = s.listen; workers = s.workers; connections = m }) o)) is.each)))

-- ---- both ways

serve_goes : (rest : List Text) → reading (codes "serve" ∷ rest) ≡ reads (stands (held [] None) idle false false) rest
unfolding clap_on_literals
serve_goes rest =
    let start = stands (held [] None) idle false false in
    command_goes (codes "serve") rest (faults start rest) (finished args (end_of start rest)) (serve_stops rest) refl refl refl refl

pub service_said : (rest : List Text) (command : Command) → All IsUtf8 rest → reading (codes "serve" ∷ rest) ≡ Some command
    → (farm : Text) × (service : Service) × (command ≡ OverFarm farm (Serve service)) × GivesService farm service rest
service_said rest command utf8 read =
    let all = all_said (suc (length rest)) rest (omega arith) [] false [] None command (nothing_pends []) refl tt utf8 (sym (serve_goes rest) ∙ read) in
    let of : Text → Option Text = λ (name : Text). said name all.0 in
    let told = told_is (of farm_id) (of (codes "disk")) (of (codes "listen")) (of (codes "workers")) (of (codes "connections")) command all.3 in
    let is : IsService all.0 told.0 told.1 =
    record { farm_file = told.3.farm_file; disk = told.3.disk_name; address = told.3.address; workers = told.3.number; connections = told.3.each } in
    (told.0, told.1, told.2, (all.0, all.1, all.2, is))

pub service_read : (rest : List Text) (farm : Text) (service : Service) → GivesService farm service rest → reading (codes "serve" ∷ rest) ≡ Some (OverFarm farm (Serve service))
service_read rest farm service gives =
    let is = gives.3 in
    let of : Text → Option Text = λ (name : Text). said name gives.0 in
    serve_goes rest ∙ (all_read gives.0 rest [] false [] None (nothing_pends []) refl gives.2 gives.1
    ∙ is_told (of farm_id) (of (codes "disk")) (of (codes "listen")) (of (codes "workers")) (of (codes "connections")) farm service
    (record { farm_file = is.farm_file; disk_name = is.disk; address = is.address; number = is.workers; each = is.connections }))
