use Rattle.std.proofs.Common.{◌≡◌, ◌+◌, ◌++◌, string_bytes, sym, ap, ◌∙◌}
use Rattle.load_requests.specs.Generator.{next, drawn}
use Rattle.load_requests.specs.Requests.{creation_text}
use Rattle.farm_bulk.proofs.LoadLemmas.{creations-start, creations-next, creations-end, after_draws-start, after_draws-next, after_draws-end}
use Rattle.farm_bulk.proofs.load.creations.Goals as goal

pub tasks-init : goal.tasks-init
tasks-init c =
    (rw c.new-text.ensures.bytes (creations-start c.args.first c.args.count c.args.generator.now), after_draws-start c.args.first c.args.count c.args.generator.now)

pub tasks-preserved : goal.tasks-preserved
tasks-preserved c =
    let finish = c.args.first + c.args.count in
    let text : string_bytes c.push_str.new.self ≡ string_bytes c.tasks.text ++ c.as_str.result.now = c.in_ok-push_str.ensures.bytes in
    let request : c.as_str.result.now ≡ creation_text c.tasks.number (drawn (next c.tasks.generator)) =
    c.as_str.ensures.value ∙ (c.in_ok-request.ensures ∙ ap (creation_text c.tasks.number) (c.draw.ensures.drawn ∙ ap drawn c.draw.ensures.number)) in (
      rw (text, c.draw.ensures.number) (creations-next (string_bytes c.tasks.text) c.as_str.result.now c.tasks.number finish c.tasks.generator c.tasks-test.true request ∙ c.tasks.invariant.0),
      rw c.draw.ensures.number (after_draws-next c.tasks.number finish c.tasks.generator c.tasks-test.true ∙ c.tasks.invariant.1),
    )

pub returns-clause-sent : goal.returns-clause-sent
returns-clause-sent c =
    sym (creations-end (string_bytes c.tasks.text) c.tasks.number (c.args.first + c.args.count) c.tasks.generator c.tasks-test.false) ∙ c.tasks.invariant.0

pub returns-clause-drawn : goal.returns-clause-drawn
returns-clause-drawn c = after_draws-end c.tasks.number (c.args.first + c.args.count) c.tasks.generator c.tasks-test.false ∙ c.tasks.invariant.1
