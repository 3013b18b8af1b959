-- `bulk`: its options, the forms of their values, and the load that they ask for.
use Rattle.std.specs.Prelude.{List, [], ◌∷◌, codes, Option, Some, None, if◌then◌else◌}
use Rattle.std.specs.Str.Parse.{digits_value}
use Rattle.clap.specs.Words.{App, Row, new_app}
use Rattle.command_line.specs.Signing.{Field, required, with_fields, value_in, are_formed}
use Rattle.command_line.specs.Values.{is_number}
use Rattle.command_line.specs.declared.load.Load.{Load}

-- the options of `bulk`, which both have to be there
abbrev pub load_fields : List Field
load_fields = required (codes "seed") (is_number 0 9223372036854775807) ∷ required (codes "tasks") (is_number 0 100000) ∷ []

-- the command `bulk`, which takes its options and nothing else
abbrev pub bulk_app : App
bulk_app = with_fields (new_app (codes "bulk")) load_fields

-- the load that the values ask for
abbrev pub load_at : List Row → Load
load_at rows = record { seed = digits_value 10 (value_in rows (codes "seed")); tasks = digits_value 10 (value_in rows (codes "tasks")) }

-- the same, where each value is of its form
abbrev pub load_in : List Row → Option Load
load_in rows = if are_formed load_fields rows then Some (load_at rows) else None
