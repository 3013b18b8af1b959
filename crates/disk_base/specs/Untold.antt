-- What a disk of the host tells, of which nothing can be said: nothing.
use Rattle.std.specs.Prelude.{[]}
use Rattle.disk_base.specs.Contents.{Contents}

-- any contents, of which no clause speaks
abbrev pub untold : Contents
untold = record { bytes = []; moment = 0; left_since = λ _ _. Unit {0}; earlier = λ _ _ _ _ left. left; reads = tt }
