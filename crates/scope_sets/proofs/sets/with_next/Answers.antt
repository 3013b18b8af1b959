use Rattle.std.proofs.Common.{◌≡◌, ℕ, ◌+◌, ◌-◌, nat_lt, nat_le, true, false, List, length, take, drop, rules, arith}
use Rattle.std.specs.List.Sorted.{IsNonDecreasingBy, IsPartitionPoint}
use Rattle.std.proofs.lemmas.List.{take_rest}
use Rattle.std.proofs.lemmas.List.Sorted.{IsPartitionedBy-ltb, IsPartitionedBy-leb, IsPartitionPoint-from_clause, IsNonDecreasingBy-drop}
use Rattle.scope_sets.specs.Walks.{rank_at}
use Rattle.scope_sets.proofs.WalkLemmas.{ranks_rise, next_members}
use Rattle.scope_sets.proofs.sets.with_next.Goals as goal

pub returns-clause-members : goal.returns-clause-members
returns-clause-members c =
    let front : List ℕ = c.args.front.now in
    let part : List (List ℕ) = c.args.part.now in
    let r : ℕ = c.args.byte + 1 in
    let a : ℕ = c.partition_point-start.result in
    let rest : List (List ℕ) = take (length part - a) (drop a part) in
    let rest_is : rest ≡ drop a part = take_rest part a in
    let rise : IsNonDecreasingBy (rank_at (length front)) part = ranks_rise front part c.requires.rising c.requires.begin in
    let rest_rise : IsNonDecreasingBy (rank_at (length front)) rest = rw rest_is (IsNonDecreasingBy-drop (rank_at (length front)) a part rise) in
    let low : IsPartitionPoint (λ (y : List ℕ). nat_lt (rank_at (length front) y) r ≡ true) (λ (y : List ℕ). nat_lt (rank_at (length front) y) r ≡ false) part a =
    IsPartitionPoint-from_clause (λ (y : List ℕ). nat_lt (rank_at (length front) y) r) part a c.partition_point-start.ensures.partitioned (IsPartitionedBy-ltb (rank_at (length front)) part r rise) (search rules) in
    let high : IsPartitionPoint (λ (y : List ℕ). nat_le (rank_at (length front) y) r ≡ true) (λ (y : List ℕ). nat_le (rank_at (length front) y) r ≡ false) rest c.partition_point-end.result =
    IsPartitionPoint-from_clause (λ (y : List ℕ). nat_le (rank_at (length front) y) r) rest c.partition_point-end.result c.partition_point-end.ensures.partitioned (IsPartitionedBy-leb (rank_at (length front)) rest r rest_rise) (search rules) in
    next_members front part rest c.args.byte r a c.partition_point-end.result (omega arith) rest_is c.requires.begin low high
