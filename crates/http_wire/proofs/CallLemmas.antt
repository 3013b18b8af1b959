-- What calls that only read leave as it was.
use Rattle.std.proofs.Common.{◌≡◌, ℕ, ◌≤◌, Err, ◌∙◌, subst}
use Rattle.http_wire.specs.Calls.{LinkState, CountsReads, OnlyReads}
use Rattle.http_wire.specs.declared.message.Wire.{Wire}
use Rattle.http_wire.specs.declared.message.Wire.TheVariants.{End, HeadFault, HeadTooLarge, NoLength, BodyTooLarge, EndedInside, ReadFault, NoMemory}

-- the count of an error, whatever would have come
counts_else : (S T : Type 0) (before now : ℕ) (wire : Wire) → CountsReads {T = S} before now (Err wire) → CountsReads {T = T} before now (Err wire)
counts_else S T before now End counts = counts
counts_else S T before now HeadFault counts = counts
counts_else S T before now HeadTooLarge counts = counts
counts_else S T before now NoLength counts = counts
counts_else S T before now BodyTooLarge counts = counts
counts_else S T before now EndedInside counts = counts
counts_else S T before now ReadFault counts = counts
counts_else S T before now NoMemory counts = counts

-- a call that failed, where all before it left the link as it was
pub OnlyReads-failed : (S T : Type 0) (before mid now : LinkState) (wire : Wire) → mid.read_faults ≡ before.read_faults → mid.written ≡ before.written
    → mid.write_faults ≡ before.write_faults → OnlyReads {T = S} mid now (Err wire) → OnlyReads {T = T} before now (Err wire)
OnlyReads-failed S T before mid now wire reads written write_faults call = record {
  later = subst (λ (n : ℕ). n ≤ now.read_faults) reads call.later;
  reads = counts_else S T before.read_faults now.read_faults wire (subst (λ (n : ℕ). CountsReads {T = S} n now.read_faults (Err wire)) reads call.reads);
  written = call.written ∙ written;
  write_faults = call.write_faults ∙ write_faults;
}
