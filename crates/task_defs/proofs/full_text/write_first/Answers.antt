use Rattle.std.proofs.Common.{List, ℕ, map, codes}
use Rattle.std.proofs.lemmas.Result.{on_ok_weaker}
use Rattle.farm_text.specs.Slug.{slug_text}
use Rattle.task_defs.specs.Definitions.{text_list}
use Rattle.task_defs.proofs.WritingLemmas.{spelled, four_written}
use Rattle.task_defs.proofs.full_text.write_first.Goals as goal

pub returns-clause-ok : goal.returns-clause-ok
returns-clause-ok c =
    let first = c.in_ok-write_moment.ensures.ok in
    let second = c.in_ok-write_moment-2.ensures.ok in
    on_ok_weaker c.write_moment-3.result (λ last. record {
      created = first.said;
      deadline = second.said;
      expires = last.said;
      created_text = first.is;
      deadline_text = second.is;
      expires_text = last.is;
      are = four_written _ _ _ _ _ _ _ _ _ first.are second.are
          (spelled (codes "dependencies") (λ (ids : List (List ℕ)). text_list (map slug_text ids)) _ _ _ _ c.list.ensures c.in_ok-write_ids.ensures.ok) last.are;
    }) c.write_moment-3.ensures.ok
