use Rattle.std.proofs.Common.{ap, ◌∙◌, ◌++◌}
use Rattle.farm_record.specs.Fields.{moment_text, sized, runs_text}
use Rattle.farm_record.proofs.WriteLemmas.{four}
use Rattle.farm_record.proofs.writing.put_claim.Goals as goal

pub returns-clause-text : goal.returns-clause-text
returns-clause-text c =
    let claim = c.args.claim.now in
    four c.args.out.now.items (moment_text claim.taken_until) (sized claim.worker_group) (sized claim.worker_id) (runs_text claim.runs) c.put_moment.new.out.items c.put_sized.new.out.items c.put_sized-2.new.out.items c.put_runs.new.out.items
    c.in_ok-put_moment.ensures.text
    (c.in_ok-put_sized.ensures ∙ ap (λ t. c.put_moment.new.out.items ++ sized t) (c.as_bytes.ensures.value ∙ c.as_str.ensures.value))
    (c.in_ok-put_sized-2.ensures ∙ ap (λ t. c.put_sized.new.out.items ++ sized t) (c.as_bytes-2.ensures.value ∙ c.as_str-2.ensures.value))
    c.in_ok-put_runs.ensures.text
