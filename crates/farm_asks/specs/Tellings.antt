-- What of a planned change is told, as the code chooses it.
use Rattle.std.specs.Prelude.{List}
use Rattle.farm_text.specs.Document.{Document}
use Rattle.run_states.specs.Rows.{Row}
use Rattle.farm_asks.specs.declared.works.Telling.{Telling}
use Rattle.farm_asks.specs.declared.works.Telling.TheVariants.{Status, Kept, Taken}
use Rattle.farm_asks.specs.Replies.{status_body}
use Rattle.farm_asks.specs.Works.{kept_doc, work_body, of_first}

-- the status of the first task, the run that is kept of it, or the runs that are taken
abbrev pub told_by : Telling → List Row → Document
told_by Status rows = of_first status_body rows
told_by (Kept run) rows = of_first (kept_doc run) rows
told_by Taken rows = work_body rows
