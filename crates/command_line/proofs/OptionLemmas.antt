-- Options that are added to a command one by one.
use Rattle.std.proofs.Common.{◌≡◌, ◌∙◌, Bool, false, ap₂}
use Rattle.std.specs.Prelude.{◌||◌}
use Rattle.clap.specs.Words.{AddsArg, App, Rule, rule_of, with_rule}
use Rattle.clap.specs.declared.builder.Arg.{Arg}
use Rattle.clap.specs.declared.builder.Command.{Command as Program}
use Rattle.command_line.specs.Parts.{IsPlainLeaf}

-- a command with one argument more
pub with_one : (app : App) (old new : Program) (a : Arg) (rule : Rule) → IsPlainLeaf app old → rule_of a ≡ rule → a.global ≡ false → AddsArg old a new
    → IsPlainLeaf (with_rule app rule) new
with_one app old new a rule leaf is local adds = (
  adds.shape local ∙ ap₂ with_rule leaf.0 is,
  adds.globals ∙ ap₂ (λ (x y : Bool). x || y) leaf.1 local,
)
