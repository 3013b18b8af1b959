use Rattle.std.proofs.Common.{◌≡◌, Option, Some, None, is_some, option_map, refl, ap, ◌∙◌}
use Rattle.farm_text.specs.Doc.{document}
use Rattle.farm_text.specs.declared.doc.Doc.{Doc}
use Rattle.farm_text.proofs.DocLemmas.{document-lookup}
use Rattle.hook_fire.proofs.defaults.has_key.Goals as goal

same : (o : Option Doc) → is_some o ≡ is_some (option_map document o)
same None = refl
same (Some d) = refl

pub returns : goal.returns
returns c = c.contains_key.ensures ∙ same _ ∙ ap is_some (document-lookup c.args.key.now c.args.members.now.entries)
