use Rattle.farm_text.specs.Doc.{document}
use Rattle.farm_text.specs.Entries.{held}
use Rattle.hook_fire.proofs.ContextLemmas.{is_context_of}
use Rattle.hook_fire.proofs.context.context.Goals as goal

pub returns : goal.returns
returns c = record {
  now = c.in_ok-now.now;
  now_text = c.in_ok-now.ensures;
  is = is_context_of c.in_ok-now.now c.in_ok-id.id c.args.drawn (document c.in_ok-fired_by.fired_by) (document c.in_ok-sent.sent) (document c.args.payload.now) (document c.into_doc.result) (held c.in_ok-names.names)
      c.into_doc.ensures c.in_ok-names.ensures c.in_ok-fired_by.ensures c.in_ok-sent.ensures.cases c.in_ok-id.ensures;
}
