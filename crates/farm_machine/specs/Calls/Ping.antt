-- ping: whether the farm is there (the queue service of the Taskcluster reference).
use Rattle.farm_machine.specs.Case.{Setting, Case, passing, reading}
use Rattle.farm_asks.specs.Replies.{alive}

-- nothing refuses it, and it changes nothing
abbrev pub ping : Setting → Case
ping at = record passing { deed = reading (λ contents. alive) }
