use Rattle.std.proofs.Common.{◌≡◌, ◌+◌, ◌-◌, ◌^◌, min, length, get_or, ap, ◌∙◌, rules}
use Rattle.farm_text.specs.declared.moment.TheConstants.{LAST_TOLD_MOMENT}
use Rattle.farm_text.specs.Told.{listed_moment}
use Rattle.farm_text.proofs.ToldLemmas.{told_by-next, told_at-place}
use Rattle.farm_text.proofs.clock.ListClockClock.now.Goals as goal

pub returns-clause-value : goal.returns-clause-value
returns-clause-value c =
    let moments = c.args.self.now.0 in
    let place = min c.args.self.now.1 (length moments - 1) in
    let found : c.min_told.result ≡ min (get_or moments place 0) LAST_TOLD_MOMENT = search rules in
    found ∙ ap (λ m. min m LAST_TOLD_MOMENT) (told_at-place moments 0 c.args.self.now.1)

pub returns-clause-told : goal.returns-clause-told
returns-clause-told c =
    let moments : c.self.inside.moments.items ≡ c.args.self.now.0 = ap (λ p. p.0) c.self.view_is in
    let calls : c.saturating_add-self-inside.result ≡ min (c.args.self.now.1 + 1) (2 ^ 64 - 1) = c.saturating_add-self-inside.ensures ∙ ap (λ p. min (p.1 + 1) (2 ^ 64 - 1)) c.self.view_is in
    let value = returns-clause-value c in
    rw (moments, calls, value) (told_by-next (listed_moment c.args.self.now.0) c.args.self.now.1)
