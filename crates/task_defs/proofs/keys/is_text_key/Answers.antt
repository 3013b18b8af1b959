use Rattle.std.proofs.Common.{ap, ◌∙◌, List, ℕ, Bor}
use Rattle.std.specs.List.{list_any}
use Rattle.std.specs.Str.{bytes_eq}
use Rattle.task_defs.proofs.keys.is_text_key.Goals as goal

pub returns : goal.returns
returns c = c.is_among.ensures ∙ ap (list_any (λ (name : Bor (List ℕ)). bytes_eq name.now c.args.key.now)) c.as_slice.ensures
