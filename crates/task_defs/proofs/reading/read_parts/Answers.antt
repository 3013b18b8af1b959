use Rattle.std.proofs.Common.{codes}
use Rattle.farm_text.specs.Doc.{document}
use Rattle.task_defs.proofs.TimeLemmas.{only_is}
use Rattle.task_defs.proofs.DefinitionLemmas.{only_definition}
use Rattle.task_defs.proofs.reading.read_parts.Goals as goal

pub returns : goal.returns
returns c =
    let d = document c.args.doc.now in
    let head = c.in-Ok.ensures.0 in
    let terms = c.in-Ok.ensures.1 in
    let span = c.in-Ok-read_span.ensures in
    let rest = c.in-Ok-read_back.ensures.0 in
    let maps = c.in-Ok-read_back.ensures.1 in
    only_definition d c.args.id _ head.0 terms.0 span.0 rest.0 span.1 span.2 span.4 record {
      created = only_is (codes "created") d _ span.1;
      deadline = only_is (codes "deadline") d _ span.2;
      dependencies = terms.1;
      expires = span.3;
      extra = maps.0;
      metadata = rest.2;
      payload = maps.1;
      priority = terms.4;
      project_id = head.2;
      queue = head.1;
      requires_ = terms.2;
      retries = terms.5;
      routes = terms.3;
      scheduler_id = head.3;
      scopes = rest.1;
      tags = rest.3;
      task_group_id = head.4;
    }
