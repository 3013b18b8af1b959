use Rattle.std.proofs.Common.{◌≡◌, ℕ, ◌+◌, [], ◌∷◌, length, subst}
use Rattle.std.specs.Prelude.{OnOk}
use Rattle.disk_journal.proofs.KeepsLemmas.{Keeps-then-Ok, Keeps-then-Err}
use Rattle.disk_journal.proofs.journal.Journal.keep.Goals as goal

pub returns-in-Ok-clause-kept : goal.returns-in-Ok-clause-kept
returns-in-Ok-clause-kept g c tells =
    Keeps-then-Ok c.append.result _ (g.D.Disk.contents c.make_room.new.self.disk) _ _ c.make_room.new.self.end _ (g.F.Frame.body c.args.frame.now ∷ []) (c.in-Ok.ensures.kept tells) (c.append.ensures.kept tells)

pub returns-in-Ok-clause-failed : goal.returns-in-Ok-clause-failed
returns-in-Ok-clause-failed g c tells =
    Keeps-then-Err c.append.result _ (g.D.Disk.contents c.make_room.new.self.disk) _ _ c.make_room.new.self.end _ (g.F.Frame.body c.args.frame.now ∷ []) (c.in-Ok.ensures.kept tells) (c.append.ensures.failed tells)

pub returns-in-Ok-clause-moves : goal.returns-in-Ok-clause-moves
returns-in-Ok-clause-moves g c =
    subst (λ (n : ℕ). OnOk c.append.result (c.append.new.self.end ≡ n + 5 + length (g.F.Frame.body c.args.frame.now))) c.make_room.ensures.stays c.append.ensures.moves
