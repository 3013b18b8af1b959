use Rattle.history.specs.Histories.{entries}
use Rattle.farm_machine.specs.Entry.{call}
use Rattle.farm_machine.specs.State.{working}
use Rattle.farm_machine.specs.Step.{farm_rules}
use Rattle.farm_core.proofs.BareLemmas.{IsResolved-nothing_due, IsAsk-from_parts}
use Rattle.farm_core.proofs.DisklessLemmas.{HaveNoDisk-append, HaveNoDisk-asked}
use Rattle.farm_core.proofs.bare.BareObject.ask.Goals as goal

pub perform-reply-requires : goal.perform-reply-requires
perform-reply-requires c =
    let at = c.moment_of-moment.ensures.value in
    IsResolved-nothing_due _ _ _ _ c.args.question c.resolve_due-ticked.ensures at

pub returns : goal.returns
returns c =
    let at = c.moment_of-moment.ensures.value in
    let within = c.moment_of-moment.ensures.told in (
      call c.args.question c.perform-reply.ensures.outcome,
      rw (← c.self.view_is)
          (IsAsk-from_parts c.self.inside.config c.self.inside.tables c.resolve_due-ticked.new.tables c.perform-reply.new.tables c.args.question c.moment_of-moment.result c.resolve_due-ticked.result c.perform-reply.result within at c.resolve_due-ticked.ensures c.perform-reply.ensures),
      λ opening seen leads held. rw (← c.self.view_is)
          (HaveNoDisk-append seen (entries farm_rules (working c.self.inside.config c.self.inside.tables) c.args.question (record { reply = c.perform-reply.result; ticked = c.resolve_due-ticked.result }) (call c.args.question c.perform-reply.ensures.outcome)) held
          (HaveNoDisk-asked (working c.self.inside.config c.self.inside.tables) c.args.question (record { reply = c.perform-reply.result; ticked = c.resolve_due-ticked.result }) c.perform-reply.ensures.outcome c.perform-reply.ensures.no_disk)),
    )
