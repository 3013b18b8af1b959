-- What `expand` does: scopes come one a line, and all that they give goes out one a line (the Taskcluster reference, "Roles").
use Rattle.std.specs.Prelude.{◌≡◌, ℕ, ◌<◌, ◌≤◌, ◌⊎◌, List, length}
use Rattle.scope_lines.specs.Lines.{lines_text, SaysScopes, RefusesLines}
use Rattle.scope_lines.specs.declared.lines.LineFault.TheVariants.{BadLine}
use Rattle.role_expand.specs.Roles.{RoleData}
use Rattle.role_expand.specs.Closures.{IsClosure, HasMoreDerivable}
use Rattle.console_commands.specs.declared.status.Status.{Status}
use Rattle.console_commands.specs.declared.status.Status.TheVariants.{Input, NoMemory}
use Rattle.http_wire.specs.Calls.{LinkState}
use Rattle.console_commands.specs.Inputs.{longest_input, Turns}

-- the greatest number of scopes that an input may give
abbrev pub most_scopes : ℕ
most_scopes = 10000

-- the input is not too long, and its lines are these scopes
pub record HasScopes (input : List ℕ) (scopes : List (List ℕ)) : Type 0 where
  pub short : length input ≤ longest_input
  pub says : SaysScopes input scopes

-- the text is all that the input's scopes give, rising, one a line
pub record IsExpansion (roles : List RoleData) (input text : List ℕ) : Type 0 where
  pub scopes : List (List ℕ)
  pub lines : HasScopes input scopes
  pub set : List (List ℕ)
  pub closure : IsClosure most_scopes roles scopes set
  pub text_is : text ≡ lines_text set

-- the input's scopes give too many
pub record GivesTooMany (roles : List RoleData) (input : List ℕ) : Type 0 where
  pub scopes : List (List ℕ)
  pub lines : HasScopes input scopes
  pub many : HasMoreDerivable most_scopes roles scopes

-- the input is refused: it is too long, a line of it is no scope, or its scopes give too many
abbrev pub IsBadInput : List RoleData → List ℕ → Type 0
IsBadInput roles input = (longest_input < length input) ⊎ (((line : ℕ) × RefusesLines input (BadLine line)) ⊎ GivesTooMany roles input)

-- What `expand` did with a console, by the status that it ended with: it read all that was to be read and wrote the expansion, or refused what it read.
abbrev pub Expands : List RoleData → LinkState → LinkState → Status → Type 0
Expands roles before after status = Turns (IsExpansion roles) (IsBadInput roles) before after status

-- why an input that was read is not expanded; want of memory is free
abbrev pub InputRefused : List RoleData → List ℕ → Status → Type 0
InputRefused roles input Input = IsBadInput roles input
InputRefused roles input NoMemory = Unit {0}
InputRefused roles input _ = ⊥
