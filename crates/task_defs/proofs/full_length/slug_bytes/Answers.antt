use Rattle.std.proofs.Common.{◌≡◌, length, ap, sym, ◌∙◌, arith}
use Rattle.farm_text.specs.Slug.{slug_text}
use Rattle.farm_text.proofs.SlugLemmas.{IsSlug-length}
use Rattle.task_defs.proofs.LengthLemmas.{quoted_size}
use Rattle.task_defs.proofs.full_length.slug_bytes.Goals as goal

pub returns : goal.returns
returns c within =
    let len : length (slug_text c.args.id) ≡ 22 = ap length (sym c.text.ensures.value) ∙ IsSlug-length _ c.text.ensures.slug in
    omega (arith, quoted_size (slug_text c.args.id), len)
