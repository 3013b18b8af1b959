use Rattle.std.proofs.Common.{◌≡◌, ◌++◌, map, take}
use Rattle.json.specs.Token.{string}
use Rattle.farm_text.specs.Slug.{slug_text}
use Rattle.task_defs.proofs.full_text.write_ids.Given as goal

abbrev pub invariant-loop-id : goal.invariant-loop-id
invariant-loop-id l = (l.out.before ≡ l.initial.out.before) × (l.out.tokens ≡ l.initial.out.tokens ++ map string (map slug_text (take l.id-index l.ids)))
