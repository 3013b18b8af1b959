use Rattle.std.proofs.Common.{refl}
use Rattle.load_requests.specs.Requests.{definition_text}
use Rattle.load_requests.proofs.TextLemmas.{IfOk-bytes}
use Rattle.load_requests.proofs.requests.definition.Goals as goal

pub returns : goal.returns
unfolding definition_text
returns c = IfOk-bytes c.format.result _ _ c.format.ensures.ok (rw (← c.priority-priority.ensures, ← c.in_ok-listed.ensures, ← c.as_str-dependencies.ensures.value) refl)
