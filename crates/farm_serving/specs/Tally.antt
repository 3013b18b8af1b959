-- What is counted of many connections.
use Rattle.std.specs.Prelude.{◌≡◌, ℕ, List, length, sum_by}
use Rattle.farm_serving.specs.Connections.{Connection, Part}
use Rattle.farm_serving.specs.Numbers.{by_read, by_write, by_wire, by_memory}
use Rattle.farm_serving.specs.declared.ended.Ended.{Ended}

-- how much this is of all connections of all parts
abbrev pub of_all : (Connection → ℕ) → List Part → ℕ
of_all f parts = sum_by (λ part. sum_by f part.connections) parts

-- The numbers are those of these parts: all messages asked, all accepts that failed, and the connections that ended by each fault.
pub record IsTally (ended : Ended) (parts : List Part) : Type 0 where
  pub served : ended.served ≡ of_all (λ c. length c.asks) parts
  pub accept_faults : ended.accept_faults ≡ sum_by (λ part. part.failed) parts
  pub read_faults : ended.read_faults ≡ of_all (λ c. by_read c.served) parts
  pub write_faults : ended.write_faults ≡ of_all (λ c. by_write c.served) parts
  pub wire_faults : ended.wire_faults ≡ of_all (λ c. by_wire c.served) parts
  pub no_memory : ended.no_memory ≡ of_all (λ c. by_memory c.served) parts
