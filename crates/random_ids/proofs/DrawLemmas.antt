-- The variant of a drawn UUID.
use Rattle.std.proofs.Common.{◌≡◌, ℕ, ◌/◌, arith, inl, inr}
use Rattle.std.proofs.lemmas.Bool.{cases_lt, lt-ltb, le-ltb}
use Rattle.uuid.specs.Parts.{variant_of}
use Rattle.uuid.specs.declared.Variant.TheVariants.{RFC4122}

-- the variant of RFC 9562 is the bits 10
pub variant_octet : (b : ℕ) → variant_of b ≡ RFC4122 → b / 64 ≡ 2
variant_octet b h = elim (cases_lt b 128) [
  | inl low ↦ cc (rw (lt-ltb b 128 low) at h)
  | inr from ↦ elim (cases_lt b 192) [
    | inl below ↦ omega arith
    | inr past ↦ elim (cases_lt b 224) [
      | inl third ↦ cc (rw (le-ltb b 128 from, le-ltb b 192 past, lt-ltb b 224 third) at h)
      | inr last ↦ cc (rw (le-ltb b 128 from, le-ltb b 192 past, le-ltb b 224 last) at h)
    ]
  ]
]
