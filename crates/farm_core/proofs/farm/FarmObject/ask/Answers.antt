-- A farm at work makes one step, or a tick and one; and one that has halted answers so.
use Rattle.std.proofs.Common.{[], ◌∷◌, List, ◌++◌, ap, sym, subst, inl, inr}
use Rattle.farm_core.specs.Farm.{state_of, HoldsHistory}
use Rattle.farm_core.proofs.HoldLemmas.{decided, halted-asked, entries-halted, holds-halted, holds-asked}
use Rattle.farm_machine.specs.Entry.{Entry, call, was_halted}
use Rattle.farm_core.proofs.farm.FarmObject.ask.Goals as goal

pub returns-clause-asks : goal.returns-clause-asks
returns-clause-asks g c = elim (decided c.args.self.now.records.halted) [
  | inl halted ↦
      let old = c.args.self.now in
      let same = c.answer.ensures.halted halted in
      let state = state_of old.config old.tables old.records.halted in
      let made = call c.args.question was_halted in (
        made,
        halted-asked state _ c.args.question c.answer.result halted (ap (λ f. state_of f.config f.tables f.records.halted) same.0) same.1,
        λ opening seen leads held.
            subst (λ (l : List Entry). HoldsHistory g.D.Disk.tells (g.D.Disk.contents c.answer.new.self.records.disk) c.answer.new.self.records.end (g.D.Disk.faults c.answer.new.self.records.disk) (state_of c.answer.new.self.config c.answer.new.self.tables c.answer.new.self.records.halted) opening (seen ++ l))
            (sym (entries-halted state c.args.question c.answer.result made same.1))
            (subst (λ f. HoldsHistory g.D.Disk.tells (g.D.Disk.contents f.records.disk) f.records.end (g.D.Disk.faults f.records.disk) (state_of f.config f.tables f.records.halted) opening (seen ++ made ∷ []))
            (sym same.0) (holds-halted g.D.Disk.tells _ _ _ state c.args.question opening seen held)),
      )
  | inr working ↦
      let asked = c.answer.ensures.asked working in (
        asked.call,
        asked.step,
        λ opening seen leads held. holds-asked g.D.Disk.tells _ _ _ _ _ _ _ _ _ _ _ _ asked working (c.answer.ensures.faults working) opening seen leads held,
      )
]
