use Rattle.std.proofs.Common.{rules, ◌≡◌, ◌+◌, ◌-◌, ◌<◌, ◌++◌, length, take, drop, replicate, arith, ◌∙◌, IsOk}
use Rattle.std.proofs.lemmas.List.{take_at}
use Rattle.std.proofs.lemmas.Bool.Decides.{nat_tests}
use Rattle.disk_base.proofs.WriteLemmas.{put_within, put_past}
use Rattle.disk_base.proofs.memory.overwrite.Goals as goal
use Rattle.disk_base.proofs.memory.overwrite.Goals.{then-end-len, else-end-len}

pub returns-clause-written : goal.returns-clause-written
returns-clause-written c =
    let kept : take c.if-end-len.file.len (c.put.new.file ++ drop (length c.put.new.file) c.if-end-len.file.items) ≡ c.put.new.file = take_at _ _ _ (omega arith) in
    let some : 0 < length c.args.piece.now = grind (arith, nat_tests) in
    kept ∙ elim c.if-end-len.branch [
      | then-end-len w ↦
          let fits : IsOk w.resize.result = w.resize.ensures.succeeds (omega arith) in
          let longer : c.as_mut_slice.result.now ≡ take (c.args.at + length c.args.piece.now) c.args.file.now.items ++ replicate (c.args.at + length c.args.piece.now - length c.args.file.now.items) 0 = search rules in
          put_past _ _ _ _ _ longer c.put.ensures some (omega arith)
      | else-end-len w ↦
          put_within _ _ _ _ _ (search rules) c.put.ensures some (omega arith)
    ]
