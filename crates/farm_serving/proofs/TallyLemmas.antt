-- How numbers of parts go together, and how great they are.
use Rattle.std.proofs.Common.{◌≡◌, ℕ, ◌+◌, ◌*◌, ◌^◌, ◌<◌, ◌≤◌, List, [], ◌∷◌, ◌++◌, length, sym, ◌∙◌, ap, subst, slice_index_or, arith}
use Rattle.std.specs.List.{All, sum_by}
use Rattle.std.proofs.lemmas.List.Sums.{sum_by-append, sum_by-le}
use Rattle.std.proofs.lemmas.List.Elements.{All-weaker}
use Rattle.farm_server.specs.declared.served.Served.{Served}
use Rattle.farm_server.specs.declared.served.Served.TheVariants.{Closed, EndedInside, WireFault, ReadFault, WriteFault, Full, NoMemory}
use Rattle.farm_serving.specs.Connections.{Connection, Part, Worked}
use Rattle.farm_serving.specs.Numbers.{by_read, by_write, by_wire, by_memory, FitTogether, both}
use Rattle.farm_serving.specs.Tally.{of_all, IsTally}
use Rattle.farm_serving.specs.declared.ended.Ended.{Ended}

-- a number of two lists of parts is both together
of_all-append : (f : Connection → ℕ) (ps qs : List Part) → of_all f (ps ++ qs) ≡ of_all f ps + of_all f qs
of_all-append f ps qs = sum_by-append (λ (part : Part). sum_by f part.connections) ps qs

-- the numbers of two lists of parts are both together
pub IsTally-both : (first second : Ended) (ps qs : List Part) → IsTally first ps → IsTally second qs → IsTally (both first second) (ps ++ qs)
IsTally-both first second ps qs front back =
    let served = of_all-append (λ c. length c.asks) ps qs in
    let accepts = sum_by-append (λ (part : Part). part.failed) ps qs in
    let reads = of_all-append (λ c. by_read c.served) ps qs in
    let writes = of_all-append (λ c. by_write c.served) ps qs in
    let wires = of_all-append (λ c. by_wire c.served) ps qs in
    let memory = of_all-append (λ c. by_memory c.served) ps qs in
    record {
      served = omega (arith, served, front.served, back.served);
      accept_faults = omega (arith, accepts, front.accept_faults, back.accept_faults);
      read_faults = omega (arith, reads, front.read_faults, back.read_faults);
      write_faults = omega (arith, writes, front.write_faults, back.write_faults);
      wire_faults = omega (arith, wires, front.wire_faults, back.wire_faults);
      no_memory = omega (arith, memory, front.no_memory, back.no_memory);
    }

-- a number of a part's connections, and of those after them
of_all-joined : (f : Connection → ℕ) (p q r : Part) → r.connections ≡ p.connections ++ q.connections → of_all f (r ∷ []) ≡ of_all f (p ∷ []) + of_all f (q ∷ [])
of_all-joined f p q r is =
    let sum = ap (sum_by f) is ∙ sum_by-append f p.connections q.connections in
    omega (arith, sum)

-- the numbers of a part, and of what follows it
pub IsTally-joined : (first second : Ended) (p q r : Part) → r.failed ≡ p.failed + q.failed → r.connections ≡ p.connections ++ q.connections → IsTally first (p ∷ []) → IsTally second (q ∷ []) → IsTally (both first second) (r ∷ [])
IsTally-joined first second p q r failed is front back =
    let served = of_all-joined (λ c. length c.asks) p q r is in
    let reads = of_all-joined (λ c. by_read c.served) p q r is in
    let writes = of_all-joined (λ c. by_write c.served) p q r is in
    let wires = of_all-joined (λ c. by_wire c.served) p q r is in
    let memory = of_all-joined (λ c. by_memory c.served) p q r is in
    record {
      served = omega (arith, served, front.served, back.served);
      accept_faults = omega (arith, failed, front.accept_faults, back.accept_faults);
      read_faults = omega (arith, reads, front.read_faults, back.read_faults);
      write_faults = omega (arith, writes, front.write_faults, back.write_faults);
      wire_faults = omega (arith, wires, front.wire_faults, back.wire_faults);
      no_memory = omega (arith, memory, front.no_memory, back.no_memory);
    }

-- a connection ends by each fault once at most
by_read-le : (served : Served) → by_read served ≤ 1
by_read-le Closed = omega arith
by_read-le EndedInside = omega arith
by_read-le (WireFault reason) = omega arith
by_read-le ReadFault = omega arith
by_read-le WriteFault = omega arith
by_read-le Full = omega arith
by_read-le NoMemory = omega arith

by_write-le : (served : Served) → by_write served ≤ 1
by_write-le Closed = omega arith
by_write-le EndedInside = omega arith
by_write-le (WireFault reason) = omega arith
by_write-le ReadFault = omega arith
by_write-le WriteFault = omega arith
by_write-le Full = omega arith
by_write-le NoMemory = omega arith

by_wire-le : (served : Served) → by_wire served ≤ 1
by_wire-le Closed = omega arith
by_wire-le EndedInside = omega arith
by_wire-le (WireFault reason) = omega arith
by_wire-le ReadFault = omega arith
by_wire-le WriteFault = omega arith
by_wire-le Full = omega arith
by_wire-le NoMemory = omega arith

by_memory-le : (served : Served) → by_memory served ≤ 1
by_memory-le Closed = omega arith
by_memory-le EndedInside = omega arith
by_memory-le (WireFault reason) = omega arith
by_memory-le ReadFault = omega arith
by_memory-le WriteFault = omega arith
by_memory-le Full = omega arith
by_memory-le NoMemory = omega arith

-- what is at most one of each connection is at most the accepts of each part
of_all-le : (f : Connection → ℕ) (accepts : ℕ) (parts : List Part) → ((c : Connection) → f c ≤ 1) → All (Worked accepts) parts → of_all f parts ≤ length parts * accepts
of_all-le f accepts parts small worked =
    sum_by-le (λ (part : Part). sum_by f part.connections) accepts parts (All-weaker (Worked accepts) (λ part. sum_by f part.connections ≤ accepts) (λ part did. within part did) parts worked)
  where
    within : (part : Part) → Worked accepts part → sum_by f part.connections ≤ accepts
    within part did =
        let each = sum_by-le f 1 part.connections (λ k d inside. small (slice_index_or part.connections k d)) in
        omega (arith, each, did.tried)

-- no number of faults is above this
pub record AreAtMost (ended : Ended) (most : ℕ) : Type 0 where
  pub accept_faults : ended.accept_faults ≤ most
  pub read_faults : ended.read_faults ≤ most
  pub write_faults : ended.write_faults ≤ most
  pub wire_faults : ended.wire_faults ≤ most
  pub no_memory : ended.no_memory ≤ most

-- no number of faults is above that of all accepts
pub AreAtMost-accepts : (accepts : ℕ) (ended : Ended) (parts : List Part) → All (Worked accepts) parts → IsTally ended parts → AreAtMost ended (length parts * accepts)
AreAtMost-accepts accepts ended parts worked tally =
    let failed = sum_by-le (λ (part : Part). part.failed) accepts parts (All-weaker (Worked accepts) (λ part. part.failed ≤ accepts) (λ part did. omega (arith, did.tried)) parts worked) in
    let reads = of_all-le (λ c. by_read c.served) accepts parts (λ c. by_read-le c.served) worked in
    let writes = of_all-le (λ c. by_write c.served) accepts parts (λ c. by_write-le c.served) worked in
    let wires = of_all-le (λ c. by_wire c.served) accepts parts (λ c. by_wire-le c.served) worked in
    let memory = of_all-le (λ c. by_memory c.served) accepts parts (λ c. by_memory-le c.served) worked in
    record {
      accept_faults = subst (λ n. n ≤ length parts * accepts) (sym tally.accept_faults) failed;
      read_faults = subst (λ n. n ≤ length parts * accepts) (sym tally.read_faults) reads;
      write_faults = subst (λ n. n ≤ length parts * accepts) (sym tally.write_faults) writes;
      wire_faults = subst (λ n. n ≤ length parts * accepts) (sym tally.wire_faults) wires;
      no_memory = subst (λ n. n ≤ length parts * accepts) (sym tally.no_memory) memory;
    }

-- numbers that are so great at most fit together
pub FitTogether-most : (first second : Ended) (most more : ℕ) → most + more < 2 ^ 64 → first.served + second.served < 2 ^ 64 → AreAtMost first most → AreAtMost second more → FitTogether first second
FitTogether-most first second most more small served front back = record {
  served = served;
  accept_faults = omega (arith, small, front.accept_faults, back.accept_faults);
  read_faults = omega (arith, small, front.read_faults, back.read_faults);
  write_faults = omega (arith, small, front.write_faults, back.write_faults);
  wire_faults = omega (arith, small, front.wire_faults, back.wire_faults);
  no_memory = omega (arith, small, front.no_memory, back.no_memory);
}
