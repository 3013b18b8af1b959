use Rattle.std.proofs.Common.{ap, sym, ◌∙◌, ℕ, List, Option, codes, Some, None, option_map}
use Rattle.clap.specs.Words.{found_of, rows_of}
use Rattle.command_line.specs.Words.{work_named}
use Rattle.command_line.specs.declared.command.Command.TheVariants.{OverFarm}
use Rattle.command_line.specs.declared.command.Work.{Work}
use Rattle.command_line.proofs.MatchLemmas.{value_met, texts_met, work_given, farm_missing}
use Rattle.command_line.proofs.SigningLemmas.{refuses}
use Rattle.command_line.proofs.reading.read_work.Goals as goal

pub returns-in_default : goal.returns-in_default
returns-in_default c =
    refuses _ _ (farm_missing c.args.name.now (rows_of (found_of c.args.matches.now)) (value_met c.args.matches.now (codes "FARM") None c.in_default.ensures))

pub returns-in-Some-work_named : goal.returns-in-Some-work_named
returns-in-Some-work_named c =
    let farm = value_met c.args.matches.now (codes "FARM") (Some c.in-Some.farm.now) c.in-Some.ensures in
    let disk = texts_met c.args.matches.now (codes "disk") c.get_str-2.result c.get_str-2.ensures in
    work_given c.args.name.now c.in-Some.farm.now (option_map (λ t. t.now) c.get_str-2.result) (rows_of (found_of c.args.matches.now)) farm disk
    ∙ (ap (λ (d : Option (List ℕ)). option_map (λ work. OverFarm c.in-Some.farm.now work) (work_named c.args.name.now d)) (sym c.in-Ok.ensures.1)
    ∙ (ap (λ (w : Option Work). option_map (λ work. OverFarm c.in-Some.farm.now work) w) (sym c.in-Some-work_named.ensures)
    ∙ ap (λ (f : List ℕ). Some (OverFarm f c.in-Some-work_named.work)) (sym c.in-Ok.ensures.0)))
