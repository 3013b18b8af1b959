use Rattle.std.proofs.Common.{◌≡◌, ◌/◌, slice_index}
use Rattle.random_ids.proofs.DrawLemmas.{variant_octet}
use Rattle.random_ids.proofs.draws.HostDrawsDraws.draw.Goals as goal

pub unreachable-requires : goal.unreachable-requires
unreachable-requires c =
    let version : slice_index c.into_bytes.result 6 / 16 ≡ 4 = rw c.into_bytes.ensures c.new_v4-uuid.ensures.version in
    let variant : slice_index c.into_bytes.result 8 / 64 ≡ 2 = rw c.into_bytes.ensures (variant_octet _ c.new_v4-uuid.ensures.variant) in
    let none = c.in_default.ensures.some version variant in
    cc none
