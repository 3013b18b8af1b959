-- What a parse says of the reading of its words.
use Rattle.std.proofs.Common.{◌≡◌, ◌≢◌, ◌∙◌, ℕ, arith, Bool, true, false, cond, refl, sym, ap, subst, inl, inr, List, [], ◌∷◌, Option, Some, None, Result, Ok, Err, option_and_then}
use Rattle.std.specs.Prelude.{MatchResult}
use Rattle.std.proofs.lemmas.Bool.{ne_eqb}
use Rattle.clap.specs.Words.{App, HasKind, HasMatchesOf, Kinds, fault_of, is_simple, is_simple_and_free, kind_of, subcommand_of, subcommand_rows_of}
use Rattle.clap.specs.Walk.{is_empty}
use Rattle.clap.proofs.OnLiterals.{clap_on_literals}
use Rattle.clap.specs.declared.ArgMatches.{ArgMatches}
use Rattle.clap.specs.declared.Error.{Error}
use Rattle.clap.specs.declared.error.ErrorKind.TheVariants.{OutOfMemory}
use Rattle.command_line.specs.Parts.{TellsOf}
use Rattle.command_line.specs.Refusal.{Refuses, RefusesWords}
use Rattle.command_line.specs.Words.{command_in, farm_app, reading}
use Rattle.command_line.specs.declared.command.Command.{Command}
use Rattle.command_line.specs.declared.reading.WordsFault.{WordsFault}
use Rattle.command_line.specs.declared.reading.WordsFault.TheVariants.{Usage, NoMemory}

farm_is_simple : is_simple farm_app ≡ true
unfolding clap_on_literals
farm_is_simple = refl

farm_is_free : is_simple_and_free farm_app ≡ true
unfolding clap_on_literals
farm_is_free = refl

-- the matches of words without a fault are their reading
pub reading_of_matches : (a : App) (words : List (List ℕ)) (m : ArgMatches) → a ≡ farm_app → HasMatchesOf a words m → (is_simple_and_free a ≡ true → fault_of a words ≡ [])
    → reading words ≡ option_and_then command_in (subcommand_rows_of m)
reading_of_matches a words m is has free =
    let faults : fault_of farm_app words ≡ [] = subst (λ (b : App). fault_of b words ≡ []) is (free (ap is_simple_and_free is ∙ farm_is_free)) in
    let matches : subcommand_rows_of m ≡ subcommand_of farm_app words = (has (ap is_simple is ∙ farm_is_simple)).1 ∙ ap (λ (b : App). subcommand_of b words) is in
    ap (λ (kinds : Kinds). cond (is_empty kinds) (option_and_then command_in (subcommand_of farm_app words)) None) faults
    ∙ ap (option_and_then command_in) (sym matches)

not_taken : (kinds : Kinds) (e : Error) → HasKind kinds e → kind_of e ≢ OutOfMemory → is_empty kinds ≡ false
not_taken [] e (inl h) other = absurd (other h)
not_taken [] e (inr h) other = absurd h
not_taken (k ∷ ks) e h other = ne_eqb _ _ (λ same. omega arith)

-- an error of clap other than want of memory comes only where the words have no reading
pub refused_by : (a : App) (words : List (List ℕ)) (e : Error) (fault : WordsFault) → a ≡ farm_app → (is_simple_and_free a ≡ true → HasKind (fault_of a words) e)
    → TellsOf (kind_of e) fault → RefusesWords words fault
refused_by a words e NoMemory is has other = tt
refused_by a words e (Usage text) is has other =
    let kinds : HasKind (fault_of farm_app words) e = subst (λ (b : App). HasKind (fault_of b words) e) is (has (ap is_simple_and_free is ∙ farm_is_free)) in
    let fails : is_empty (fault_of farm_app words) ≡ false = not_taken (fault_of farm_app words) e kinds other in
    ap (λ (b : Bool). cond b (option_and_then command_in (subcommand_of farm_app words)) None) fails

-- what is read of the matches is read of the words
pub read_from : (words : List (List ℕ)) (r : Result Command WordsFault) (read : Option Command) → reading words ≡ read
    → MatchResult r (λ command. read ≡ Some command) (Refuses read) → MatchResult r (λ command. reading words ≡ Some command) (RefusesWords words)
read_from words (Ok command) read is h = is ∙ h
read_from words (Err fault) read is h = subst (λ (o : Option Command). Refuses o fault) (sym is) h
