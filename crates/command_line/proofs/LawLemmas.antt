-- The reading of words that are no options.
use Rattle.std.proofs.Common.{◌≡◌, ◌∙◌, ℕ, Bool, true, false, cond, refl, sym, ap, subst, arith, List, [], ◌∷◌, ◌++◌, Option, Some, None, codes, fold, append-nil, append_assoc}
use Rattle.std.specs.Prelude.{◌==◌, option_and_then}
use Rattle.std.specs.Str.{bytes_eq}
use Rattle.std.proofs.lemmas.Bool.{ne_eqb}
use Rattle.std.proofs.lemmas.Slice.Eq.{bytes_eq-Decides}
use Rattle.clap.specs.Words.{App, Kinds, Text, built, fault_of, subcommand_of}
use Rattle.clap.specs.Faults.{entered_fault}
use Rattle.clap.specs.Kinds.{or_else}
use Rattle.clap.specs.Simple.{argument_words, names_of}
use Rattle.clap.specs.Walk.{Names, Rule, Walk, is_empty, nothing_held, stop_after, walk_from, walked, walked_from}
use Rattle.clap.proofs.OnLiterals.{clap_on_literals}
use Rattle.clap.specs.declared.error.ErrorKind.TheVariants.{UnknownArgument, InvalidSubcommand, DisplayHelp}
use Rattle.command_line.specs.Words.{IsPlain, command_in, disk_of, farm_app, name_of, reading}
use Rattle.command_line.specs.declared.command.Command.TheVariants.{OverFarm}
use Rattle.command_line.specs.declared.command.Work.{Work}
use Rattle.command_line.specs.declared.command.Work.TheVariants.{Answer, Expand, Check, Serve}

not_minus : (x : ℕ) (xs : List ℕ) → IsPlain (x ∷ xs) → (x == 45) ≡ false
not_minus x xs plain = ne_eqb x 45 (λ same. plain (ap Some same))

pub answer_read : (farm : List ℕ) → IsPlain farm → reading (codes "answer" ∷ farm ∷ []) ≡ Some (OverFarm farm (Answer None))
unfolding clap_on_literals
answer_read [] plain = refl
answer_read (x ∷ xs) plain = simp (not_minus x xs plain)

pub expand_read : (farm : List ℕ) → IsPlain farm → reading (codes "expand" ∷ farm ∷ []) ≡ Some (OverFarm farm Expand)
unfolding clap_on_literals
expand_read [] plain = refl
expand_read (x ∷ xs) plain = simp (not_minus x xs plain)

pub check_read : (farm : List ℕ) → IsPlain farm → reading (codes "check" ∷ farm ∷ []) ≡ Some (OverFarm farm (Check None))
unfolding clap_on_literals
check_read [] plain = refl
check_read (x ∷ xs) plain = simp (not_minus x xs plain)

-- work over a plain farm file is read, without a disk
pub plain_read : (farm : List ℕ) (work : Work) → IsPlain farm → disk_of work ≡ None → reading (name_of work ∷ farm ∷ []) ≡ Some (OverFarm farm work)
plain_read farm (Answer None) plain none = answer_read farm plain
plain_read farm (Answer (Some disk)) plain none = cc
plain_read farm Expand plain none = expand_read farm plain
plain_read farm (Check None) plain none = check_read farm plain
plain_read farm (Check (Some disk)) plain none = cc
plain_read farm (Serve service) plain none = cc

-- words with a fault have no reading
pub no_reading : (words : List (List ℕ)) → is_empty (fault_of farm_app words) ≡ false → reading words ≡ None
no_reading words fails = ap (λ (b : Bool). cond b (option_and_then command_in (subcommand_of farm_app words)) None) fails

-- ---- the first word

first_fault : (x : ℕ) (xs : List ℕ) (rest : List Text) → IsPlain (x ∷ xs) → bytes_eq (codes "answer") (x ∷ xs) ≡ false → bytes_eq (codes "expand") (x ∷ xs) ≡ false
    → bytes_eq (codes "check") (x ∷ xs) ≡ false → bytes_eq (codes "sign") (x ∷ xs) ≡ false → bytes_eq (codes "bulk") (x ∷ xs) ≡ false → bytes_eq (codes "render") (x ∷ xs) ≡ false
    → bytes_eq (codes "serve") (x ∷ xs) ≡ false → bytes_eq (codes "help") (x ∷ xs) ≡ false → fault_of farm_app ((x ∷ xs) ∷ rest) ≡ UnknownArgument ∷ InvalidSubcommand ∷ []
unfolding clap_on_literals
first_fault x xs rest plain answer expand check sign bulk render serve help = simp (answer, expand, check, sign, bulk, render, serve, help, not_minus x xs plain)

pub empty_fault : (rest : List Text) → fault_of farm_app ([] ∷ rest) ≡ UnknownArgument ∷ InvalidSubcommand ∷ []
unfolding clap_on_literals
empty_fault rest = refl

help_fault : (rest : List Text) → fault_of farm_app (codes "help" ∷ rest) ≡ DisplayHelp ∷ InvalidSubcommand ∷ []
unfolding clap_on_literals
help_fault rest = refl

-- ---- the words after a command

-- the words after a subcommand are its words
pub stopped_on : (c : List Rule) (names : Names) (w : Walk) (name : Text) (before rest : List Text) → w.stopped ≡ Some (name, before)
    → (fold (walked c names) w rest).stopped ≡ Some (name, before ++ rest)
unfolding walked
stopped_on c names w name before [] e = e ∙ ap (λ (words : List Text). Some (name, words)) (sym (append-nil before))
stopped_on c names w name before (word ∷ rest) e =
    let next : (walked c names w word).stopped ≡ Some (name, before ++ word ∷ []) = ap (λ (s : Option (Text × List Text)). (walked_from c names s w word).stopped) e in
    stopped_on c names (walked c names w word) name (before ++ word ∷ []) rest next ∙ ap (λ (words : List Text). Some (name, words)) (append_assoc before (word ∷ []) rest)

pub second_fails : (above below more : Kinds) → is_empty below ≡ false → is_empty (or_else above (or_else below more)) ≡ false
second_fails [] [] more fails = cc
second_fails [] (k ∷ ks) more fails = fails
second_fails (k ∷ ks) below more fails = ne_eqb _ _ (λ same. omega arith)

-- a subcommand's fault is a fault of the words
pub fails_below : (a : App) (words : List Text) → is_empty (entered_fault (built a) (stop_after (built a).top.rules (names_of (built a)) (argument_words a words))) ≡ false
    → is_empty (fault_of a words) ≡ false
fails_below a words fails = second_fails _ _ _ fails

pub answer_stops : (rest : List Text) → stop_after (built farm_app).top.rules (names_of (built farm_app)) (argument_words farm_app (codes "answer" ∷ rest)) ≡ Some (codes "answer", rest)
unfolding clap_on_literals
answer_stops rest =
    let app = built farm_app in
    stopped_on app.top.rules (names_of app) (walked app.top.rules (names_of app) (walk_from nothing_held) (codes "answer")) (codes "answer") [] rest refl

pub expand_stops : (rest : List Text) → stop_after (built farm_app).top.rules (names_of (built farm_app)) (argument_words farm_app (codes "expand" ∷ rest)) ≡ Some (codes "expand", rest)
unfolding clap_on_literals
expand_stops rest =
    let app = built farm_app in
    stopped_on app.top.rules (names_of app) (walked app.top.rules (names_of app) (walk_from nothing_held) (codes "expand")) (codes "expand") [] rest refl

pub check_stops : (rest : List Text) → stop_after (built farm_app).top.rules (names_of (built farm_app)) (argument_words farm_app (codes "check" ∷ rest)) ≡ Some (codes "check", rest)
unfolding clap_on_literals
check_stops rest =
    let app = built farm_app in
    stopped_on app.top.rules (names_of app) (walked app.top.rules (names_of app) (walk_from nothing_held) (codes "check")) (codes "check") [] rest refl

pub sign_stops : (rest : List Text) → stop_after (built farm_app).top.rules (names_of (built farm_app)) (argument_words farm_app (codes "sign" ∷ rest)) ≡ Some (codes "sign", rest)
unfolding clap_on_literals
sign_stops rest =
    let app = built farm_app in
    stopped_on app.top.rules (names_of app) (walked app.top.rules (names_of app) (walk_from nothing_held) (codes "sign")) (codes "sign") [] rest refl

pub bulk_stops : (rest : List Text) → stop_after (built farm_app).top.rules (names_of (built farm_app)) (argument_words farm_app (codes "bulk" ∷ rest)) ≡ Some (codes "bulk", rest)
unfolding clap_on_literals
bulk_stops rest =
    let app = built farm_app in
    stopped_on app.top.rules (names_of app) (walked app.top.rules (names_of app) (walk_from nothing_held) (codes "bulk")) (codes "bulk") [] rest refl

pub render_stops : (rest : List Text) → stop_after (built farm_app).top.rules (names_of (built farm_app)) (argument_words farm_app (codes "render" ∷ rest)) ≡ Some (codes "render", rest)
unfolding clap_on_literals
render_stops rest =
    let app = built farm_app in
    stopped_on app.top.rules (names_of app) (walked app.top.rules (names_of app) (walk_from nothing_held) (codes "render")) (codes "render") [] rest refl

pub serve_stops : (rest : List Text) → stop_after (built farm_app).top.rules (names_of (built farm_app)) (argument_words farm_app (codes "serve" ∷ rest)) ≡ Some (codes "serve", rest)
unfolding clap_on_literals
serve_stops rest =
    let app = built farm_app in
    stopped_on app.top.rules (names_of app) (walked app.top.rules (names_of app) (walk_from nothing_held) (codes "serve")) (codes "serve") [] rest refl

-- ---- every first word

pub other_first : (w : Text) (rest : List Text) → IsPlain w → bytes_eq (codes "answer") w ≡ false → bytes_eq (codes "expand") w ≡ false
    → bytes_eq (codes "check") w ≡ false → bytes_eq (codes "sign") w ≡ false → bytes_eq (codes "bulk") w ≡ false → bytes_eq (codes "render") w ≡ false
    → bytes_eq (codes "serve") w ≡ false → bytes_eq (codes "help") w ≡ false → reading (w ∷ rest) ≡ None
other_first [] rest plain a e c s b r v h = no_reading ([] ∷ rest) (ap is_empty (empty_fault rest))
other_first (x ∷ xs) rest plain a e c s b r v h = no_reading ((x ∷ xs) ∷ rest) (ap is_empty (first_fault x xs rest plain a e c s b r v h))

pub help_first : (w : Text) (rest : List Text) → bytes_eq (codes "help") w ≡ true → reading (w ∷ rest) ≡ None
help_first w rest same =
    let is : codes "help" ≡ w = (bytes_eq-Decides (codes "help") w).0 same in
    subst (λ (v : Text). reading (v ∷ rest) ≡ None) is (no_reading (codes "help" ∷ rest) (ap is_empty (help_fault rest)))

pub empty_read : reading [] ≡ None
unfolding clap_on_literals
empty_read = refl
