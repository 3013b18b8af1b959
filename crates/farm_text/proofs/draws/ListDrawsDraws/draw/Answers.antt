use Rattle.std.proofs.Common.{◌≡◌, ◌+◌, ◌-◌, ◌^◌, min, length, get_or, ap, ◌∙◌, rules}
use Rattle.farm_text.specs.Told.{first_uuid, listed_id}
use Rattle.farm_text.proofs.ToldLemmas.{told_by-next, told_at-place}
use Rattle.farm_text.proofs.draws.ListDrawsDraws.draw.Goals as goal

pub returns-clause-value : goal.returns-clause-value
returns-clause-value c =
    let ids = c.args.self.now.0 in
    let place = min c.args.self.now.1 (length ids - 1) in
    let found : c.unwrap_or-id.result ≡ get_or ids place first_uuid = search rules in
    found ∙ told_at-place ids first_uuid c.args.self.now.1

pub returns-clause-told : goal.returns-clause-told
returns-clause-told c =
    let ids : c.self.inside.ids.items ≡ c.args.self.now.0 = ap (λ p. p.0) c.self.view_is in
    let calls : c.saturating_add-self-inside.result ≡ min (c.args.self.now.1 + 1) (2 ^ 64 - 1) = c.saturating_add-self-inside.ensures ∙ ap (λ p. min (p.1 + 1) (2 ^ 64 - 1)) c.self.view_is in
    let value = returns-clause-value c in
    rw (ids, calls, value) (told_by-next (listed_id c.args.self.now.0) c.args.self.now.1)
