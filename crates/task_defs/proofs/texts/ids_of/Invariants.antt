use Rattle.std.proofs.Common.{◌≡◌, map, take, All}
use Rattle.std.specs.List.{filter_map}
use Rattle.farm_text.specs.Slug.{IsSlug, slug_of}
use Rattle.task_defs.proofs.texts.ids_of.Given as goal

abbrev pub invariant-loop-text : goal.invariant-loop-text
invariant-loop-text l =
    (l.ids.items ≡ filter_map slug_of (map (λ t. t.now) (take l.text-index l.texts))) × All IsSlug (map (λ t. t.now) (take l.text-index l.texts))
