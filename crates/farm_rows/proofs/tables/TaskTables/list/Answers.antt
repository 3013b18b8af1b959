use Rattle.std.proofs.Common.{ℕ, ◌<◌, List, sym, subst}
use Rattle.std.specs.List.{AllPairs}
use Rattle.task_index.proofs.ListingLemmas.{places-rise}
use Rattle.farm_rows.proofs.tables.TaskTables.list.Goals as goal

pub page_behind-requires : goal.page_behind-requires
page_behind-requires c = subst (λ (places : List ℕ). AllPairs (λ x y. x < y) places) (sym c.members_of.ensures) (places-rise _ 0 c.deref.result.now)

pub returns-clause-rising : goal.returns-clause-rising
returns-clause-rising c = places-rise _ 0 c.args.self.now.rows
