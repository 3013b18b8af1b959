use Rattle.std.proofs.Common.{◌≡◌, ◌+◌, ◌-◌, ◌^◌, min, ap, ◌∙◌}
use Rattle.farm_text.proofs.ToldLemmas.{told_by-next}
use Rattle.farm_text.specs.Told.{first_uuid}
use Rattle.load_requests.proofs.still.StillDrawsDraws.draw.Goals as goal

pub returns : goal.returns
returns c =
    let calls : c.saturating_add-self-inside.result ≡ min (c.args.self.now + 1) (2 ^ 64 - 1) = c.saturating_add-self-inside.ensures ∙ ap (λ n. min (n + 1) (2 ^ 64 - 1)) c.self.view_is in
    let value : c.task_of.result ≡ first_uuid = c.task_of.ensures in
    record { told = rw (calls, value) (told_by-next (λ _. first_uuid) c.args.self.now) }
