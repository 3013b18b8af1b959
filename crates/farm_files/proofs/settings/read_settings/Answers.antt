use Rattle.std.proofs.Common.{◌≡◌, Some, None, Option, sym, ap, ◌∙◌, subst}
use Rattle.std.specs.Prelude.{MatchResult, codes, unwrap_or}
use Rattle.toml.specs.Data.{Data, table, no_members}
use Rattle.toml.specs.View.{view, table_view, members_view}
use Rattle.toml.proofs.Views.{table_get}
use Rattle.farm_files.specs.declared.fault.Rule.{Rule}
use Rattle.farm_files.specs.declared.fault.Rule.TheVariants.{WrongKind}
use Rattle.farm_files.specs.Faults.{IsLeastRule, RefusesRow}
use Rattle.farm_files.specs.Files.{FarmBreaks, farm_in, members_in}
use Rattle.farm_files.specs.Parts.{settings_of}
use Rattle.farm_files.proofs.RuleLemmas.{farm_no_table, table_is}
use Rattle.farm_files.proofs.settings.read_settings.Goals as goal

pub returns-in-None : goal.returns-in-None
returns-in-None c =
    let P : Data → Type 0 = λ d. MatchResult c.read_table.result (λ s. ((rule : Rule) → ¬ FarmBreaks d rule) × (s ≡ settings_of (members_in d))) (RefusesRow (FarmBreaks d)) in
    let e : farm_in (table_view c.args.top.now) ≡ table (table_view c.new.result) =
    ap (λ (o : Option Data). unwrap_or o (table no_members)) (sym (table_get None (codes "farm") c.args.top.now.entries c.in-None.ensures.value))
    ∙ ap (λ es. table (members_view es)) (sym c.new.ensures.empty) in
    subst P (sym e) c.read_table.ensures

pub returns-in-Some-as_table : goal.returns-in-Some-as_table
returns-in-Some-as_table c =
    let P : Data → Type 0 = λ d. MatchResult c.read_table-in-Some-as_table.result (λ s. ((rule : Rule) → ¬ FarmBreaks d rule) × (s ≡ settings_of (members_in d))) (RefusesRow (FarmBreaks d)) in
    let e : farm_in (table_view c.args.top.now) ≡ table (table_view c.in-Some-as_table.farm.now) =
    ap (λ (o : Option Data). unwrap_or o (table no_members)) (sym (table_get (Some c.in-Some.value) (codes "farm") c.args.top.now.entries c.in-Some.ensures.value))
    ∙ table_is (view c.in-Some.value.now) _ c.in-Some-as_table.ensures in
    subst P (sym e) c.read_table-in-Some-as_table.ensures

pub returns-in-None-as_table : goal.returns-in-None-as_table
returns-in-None-as_table c =
    let P : Data → Type 0 = λ d. IsLeastRule (FarmBreaks d) WrongKind in
    let e : farm_in (table_view c.args.top.now) ≡ view c.in-Some.value.now =
    ap (λ (o : Option Data). unwrap_or o (table no_members)) (sym (table_get (Some c.in-Some.value) (codes "farm") c.args.top.now.entries c.in-Some.ensures.value)) in
    subst P (sym e) (farm_no_table (view c.in-Some.value.now) c.in-None-as_table.ensures)
