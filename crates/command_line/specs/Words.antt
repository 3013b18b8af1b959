-- The command line of the farm program, over what the crate clap (https://docs.rs/clap) is stated to read of words.
use Rattle.std.specs.Prelude.{◌≢◌, ℕ, Bool, true, false, List, Option, Some, None, codes, if◌then◌else◌, option_map, option_and_then, slice_get, fold}
use Rattle.std.specs.Str.{bytes_eq}
use Rattle.clap.specs.Words.{App, Row, Rule, first_of, new_app, new_rule, subcommand_of, with_rule, with_subcommand, fault_of}
use Rattle.clap.specs.Walk.{is_empty}
use Rattle.command_line.specs.Load.{bulk_app, load_in}
use Rattle.command_line.specs.Service.{service_in, service_options}
use Rattle.command_line.specs.Signing.{option_rule, sign_app, signing_in}
use Rattle.command_line.specs.declared.command.Command.{Command}
use Rattle.command_line.specs.declared.command.Command.TheVariants.{OverFarm, Sign, Bulk, Render}
use Rattle.command_line.specs.declared.command.Work.{Work}
use Rattle.command_line.specs.declared.command.Work.TheVariants.{Answer, Expand, Check, Serve}

-- FARM: a required word in its place
abbrev pub farm_argument : Rule
farm_argument = record (new_rule (codes "FARM")) { required = true; value_names = 1 }

-- a command of this name, which takes FARM and nothing else
abbrev pub with_farm : List ℕ → App
with_farm name = with_rule (new_app name) farm_argument

-- `--disk`: an option with one value, which may be left out
abbrev pub disk_option : Rule
disk_option = option_rule (codes "disk") false

-- a command of this name, which takes FARM and `--disk`, and nothing else
abbrev pub with_disk : List ℕ → App
with_disk name = with_rule (with_farm name) disk_option

-- the program without its commands: its words come without its name, and have to name a command
abbrev pub bare_app : App
bare_app =
    let program = new_app (codes "farm") in
    record program { top = record program.top { no_binary_name = true; subcommand_required = true; arg_required_else_help = true } }

-- the command `render`, which takes nothing
abbrev pub render_app : App
render_app = new_app (codes "render")

-- the command `serve`, which takes FARM and its options, and nothing else
abbrev pub serve_app : App
serve_app = fold with_rule (with_farm (codes "serve")) service_options

-- the program with its seven commands
abbrev pub farm_app : App
farm_app =
    with_subcommand (with_subcommand (with_subcommand (with_subcommand (with_subcommand (with_subcommand (with_subcommand bare_app (with_disk (codes "answer")).top) (with_farm (codes "expand")).top)
    (with_disk (codes "check")).top) sign_app.top) bulk_app.top) render_app.top) serve_app.top

-- the work of a name, with this disk
abbrev pub work_named : List ℕ → Option (List ℕ) → Option Work
work_named name disk =
    if bytes_eq name (codes "answer") then Some (Answer disk)
    else if bytes_eq name (codes "expand") then Some Expand
    else if bytes_eq name (codes "check") then Some (Check disk)
    else None

-- the work of a name, over the farm file and the disk that are given
abbrev pub work_in : List ℕ → List Row → Option Command
work_in name rows =
    option_and_then (λ farm. option_map (λ work. OverFarm farm work) (work_named name (first_of (codes "disk") rows))) (first_of (codes "FARM") rows)

-- the service over the farm file that is given, where there is one
abbrev pub serve_in : List Row → Option Command
serve_in rows = option_and_then (λ farm. option_map (λ service. OverFarm farm (Serve service)) (service_in rows)) (first_of (codes "FARM") rows)

-- the command of a subcommand's name and matches
abbrev pub command_in : List ℕ × List Row → Option Command
command_in met =
    if bytes_eq met.0 (codes "sign") then option_map (λ signing. Sign signing) (signing_in met.1)
    else if bytes_eq met.0 (codes "bulk") then option_map (λ load. Bulk load) (load_in met.1)
    else if bytes_eq met.0 (codes "render") then Some Render
    else if bytes_eq met.0 (codes "serve") then serve_in met.1
    else work_in met.0 met.1

-- clap finds no fault in the words, and no request for help
abbrev pub are_taken : List (List ℕ) → Bool
are_taken words = is_empty (fault_of farm_app words)

-- what the words ask for: the subcommand that clap matches, where it takes them and each value is of its form
abbrev pub reading : List (List ℕ) → Option Command
reading words = if are_taken words then option_and_then command_in (subcommand_of farm_app words) else None

-- the name of the command that does this work
abbrev pub name_of : Work → List ℕ
name_of (Answer disk) = codes "answer"
name_of Expand = codes "expand"
name_of (Check disk) = codes "check"
name_of (Serve service) = codes "serve"

-- the disk that it has
abbrev pub disk_of : Work → Option (List ℕ)
disk_of (Answer disk) = disk
disk_of Expand = None
disk_of (Check disk) = disk
disk_of (Serve service) = Some service.disk

-- the word does not begin with `-` (45)
abbrev pub IsPlain : List ℕ → Type 0
IsPlain word = slice_get word 0 ≢ Some 45
