-- What `bulk` does: it writes how the tasks of a generated load stand.
use Rattle.std.specs.Prelude.{◌≡◌, ℕ, List}
use Rattle.command_line.specs.declared.load.Load.{Load}
use Rattle.farm_rows.specs.declared.summary.Summary.{Summary}
use Rattle.farm_bulk.specs.Bulk.{IsBulk, summary_text}
use Rattle.http_wire.specs.Calls.{LinkState}
use Rattle.console_commands.specs.declared.status.Status.{Status}
use Rattle.console_commands.specs.declared.status.Status.TheVariants.{NoMemory}
use Rattle.console_commands.specs.Inputs.{Tells}
use Rattle.console_commands.specs.Writing.{SameReads, SameWrites}

-- the line of a load: the summary of its run
abbrev pub IsLoadLine : Load → List ℕ → Type 0
IsLoadLine load text = (summary : Summary) × IsBulk load.seed load.tasks summary × (text ≡ summary_text summary)

-- what `bulk` did with a console, which it does not read, by the status that it ended with
abbrev pub Loads : Load → LinkState → LinkState → Status → Type 0
Loads load before after NoMemory = SameReads before after × SameWrites before after
Loads load before after status = (text : List ℕ) × IsLoadLine load text × Tells text before after status
