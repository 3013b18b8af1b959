use Rattle.std.proofs.Common.{◌≡◌, ℕ, nat_lt, true, false, arith, rules}
use Rattle.std.specs.List.Sorted.{IsNonDecreasingBy, IsPartitionPoint}
use Rattle.std.proofs.lemmas.List.Sorted.{IsPartitionedBy-ltb, IsPartitionPoint-from_clause}
use Rattle.task_index.proofs.ListingLemmas.{from-count, places-fall_not}
use Rattle.task_index.proofs.listing.count_before.Goals as goal

pub returns-clause-rest : goal.returns-clause-rest
returns-clause-rest c =
    let places = c.args.places.now in
    let start = c.args.start in
    let at = c.partition_point.result in
    let sorted : IsNonDecreasingBy (λ (y : ℕ). y) places = places-fall_not places c.requires in
    let point : IsPartitionPoint (λ (y : ℕ). nat_lt y start ≡ true) (λ (y : ℕ). nat_lt y start ≡ false) places at =
    IsPartitionPoint-from_clause (λ (y : ℕ). nat_lt y start) places at c.partition_point.ensures.partitioned (IsPartitionedBy-ltb (λ (y : ℕ). y) places start sorted) (search rules) in
    from-count start places at c.partition_point.ensures.bound (λ k d below. point.0 k d (omega arith) below) (λ k d from inside. point.1 k d from inside)
