use Rattle.std.proofs.Common.{◌≡◌, ◌+◌, ◌-◌, ◌^◌, min, ap, ◌∙◌}
use Rattle.farm_text.proofs.ToldLemmas.{told_by-next}
use Rattle.load_requests.specs.Still.{midnight}
use Rattle.load_requests.proofs.still.StillClockClock.now.Goals as goal

pub returns-clause-told : goal.returns-clause-told
returns-clause-told c =
    let calls : c.saturating_add-self-inside.result ≡ min (c.args.self.now + 1) (2 ^ 64 - 1) = c.saturating_add-self-inside.ensures ∙ ap (λ n. min (n + 1) (2 ^ 64 - 1)) c.self.view_is in
    let value : c.in-Some.moment ≡ midnight = c.in-Some.ensures.value in
    rw (calls, value) (told_by-next (λ _. midnight) c.args.self.now)
