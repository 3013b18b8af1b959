use Rattle.std.proofs.lemmas.Bool.{false≢true}
use Rattle.toml.specs.View.{table_view}
use Rattle.farm_files.proofs.FarmLemmas.{says_farm, first_long, first_not_toml, never_toml}
use Rattle.farm_files.proofs.reading.read_farm_with.Goals as goal

pub returns-in-Ok : goal.returns-in-Ok
returns-in-Ok c =
    says_farm 4194304 c.args.bytes.now (table_view c.in-Ok.top) c.if-bytes-gt-LONGEST_FILE.false record { text = c.in-Ok.ensures.ok.0; members = c.in-Ok.ensures.ok.1 } c.read_tables.result c.read_tables.ensures

pub returns-else-is_memory : goal.returns-else-is_memory
returns-else-is_memory c =
    rw c.at-in-Err.ensures
    (first_not_toml 4194304 c.args.bytes.now c.if-bytes-gt-LONGEST_FILE.false
    (never_toml c.args.bytes.now (c.in-Err.ensures.refused (λ memory. false≢true (c.if-is_memory.ensures.1 memory)))))

pub returns-then-bytes-gt-LONGEST_FILE : goal.returns-then-bytes-gt-LONGEST_FILE
returns-then-bytes-gt-LONGEST_FILE c = rw c.at.ensures (first_long 4194304 c.args.bytes.now c.if-bytes-gt-LONGEST_FILE.true)
