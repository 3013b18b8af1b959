-- What a stream of the host tells as a link.
use Rattle.std.specs.Prelude.{ℕ, List, Option, None}

-- bytes that are not told
abbrev pub untold : Option (List ℕ)
untold = None
