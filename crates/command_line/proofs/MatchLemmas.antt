-- The command that matches name.
use Rattle.std.proofs.Common.{◌≡◌, ◌∙◌, sym, ap, subst, Result, List, Option, Some, None, Box, option_map, option_and_then, codes}
use Rattle.std.specs.Prelude.{MatchResult}
use Rattle.std.specs.Borrow.{Bor}
use Rattle.std.specs.Box.{box_value}
use Rattle.clap.specs.Words.{Row, Text, first_of, first_value, found_of, rows_of, subcommand_rows, subcommand_rows_of, subcommand_name_of}
use Rattle.clap.specs.declared.ArgMatches.{ArgMatches}
use Rattle.clap.specs.declared.parser.matches.SubCommand.{SubCommand}
use Rattle.clap.specs.declared.parser.matches.ArgMatches.TheViews.{out-ArgMatches, out-SubCommand}
use Rattle.clap.proofs.WalkLemmas.{first_value-rows}
use Rattle.command_line.specs.Refusal.{Refuses}
use Rattle.command_line.specs.Words.{command_in, work_in, work_named}
use Rattle.command_line.specs.declared.command.Command.{Command}
use Rattle.command_line.specs.declared.reading.WordsFault.{WordsFault}
use Rattle.command_line.specs.declared.command.Command.TheVariants.{OverFarm}

met : {Z : Type 0} (o : Option (Box SubCommand Z)) (name : Text) (rows : List Row) → option_map (λ b. (out-SubCommand (box_value b)).name.now) o ≡ Some name
    → option_map (λ p. p.1) (subcommand_rows o) ≡ Some rows → subcommand_rows o ≡ Some (name, rows)
met None name rows is has = cc
met (Some b) name rows is has = cc

-- the matches of a subcommand, by its name and by its own matches
pub rows_met : (m inner : ArgMatches) (name : Text) → subcommand_name_of m ≡ Some name
    → option_map (λ p. p.1) (subcommand_rows (out-ArgMatches m).subcommand) ≡ Some (rows_of (found_of inner)) → subcommand_rows_of m ≡ Some (name, rows_of (found_of inner))
rows_met m inner name is has = met (out-ArgMatches m).subcommand name (rows_of (found_of inner)) is has

-- the command of a subcommand's name and matches
pub command_met : (m inner : ArgMatches) (name : Text) → subcommand_rows_of m ≡ Some (name, rows_of (found_of inner))
    → option_and_then command_in (subcommand_rows_of m) ≡ command_in (name, rows_of (found_of inner))
command_met m inner name is = ap (option_and_then command_in) is

-- what is read of a subcommand's name and matches is read of the matches that name it
pub command_read : (m inner : ArgMatches) (name : Text) (r : Result Command WordsFault) → subcommand_name_of m ≡ Some name
    → option_map (λ p. p.1) (subcommand_rows (out-ArgMatches m).subcommand) ≡ Some (rows_of (found_of inner))
    → MatchResult r (λ command. command_in (name, rows_of (found_of inner)) ≡ Some command) (Refuses (command_in (name, rows_of (found_of inner))))
    → MatchResult r (λ command. option_and_then command_in (subcommand_rows_of m) ≡ Some command) (Refuses (option_and_then command_in (subcommand_rows_of m)))
command_read m inner name r is has reads =
    let same = command_met m inner name (rows_met m inner name is has) in
    subst (λ (o : Option Command). MatchResult r (λ command. o ≡ Some command) (Refuses o)) (sym same) reads

-- a value, by the rows of the matches
pub value_met : (m : ArgMatches) (id : Text) (value : Option Text) → value ≡ first_value (found_of m) id → value ≡ first_of id (rows_of (found_of m))
value_met m id value is = is ∙ first_value-rows (found_of m) id

-- the work over the values that are given
pub work_given : (name farm : Text) (disk : Option Text) (rows : List Row) → Some farm ≡ first_of (codes "FARM") rows → disk ≡ first_of (codes "disk") rows
    → work_in name rows ≡ option_map (λ work. OverFarm farm work) (work_named name disk)
work_given name farm disk rows has gives =
    ap (option_and_then (λ (f : Text). option_map (λ work. OverFarm f work) (work_named name (first_of (codes "disk") rows)))) (sym has)
    ∙ ap (λ (d : Option Text). option_map (λ work. OverFarm farm work) (work_named name d)) (sym gives)

pub farm_missing : (name : Text) (rows : List Row) → None ≡ first_of (codes "FARM") rows → work_in name rows ≡ None
farm_missing name rows none =
    ap (option_and_then (λ (f : Text). option_map (λ work. OverFarm f work) (work_named name (first_of (codes "disk") rows)))) (sym none)

-- an option that is told as one of texts
pub texts_met : (m : ArgMatches) (id : Text) (value : Option (Bor Text)) → option_map (λ t. t.now) value ≡ first_value (found_of m) id → option_map (λ t. t.now) value ≡ first_of id (rows_of (found_of m))
texts_met m id value is = is ∙ first_value-rows (found_of m) id
