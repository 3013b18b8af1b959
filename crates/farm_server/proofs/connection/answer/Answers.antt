use Rattle.std.proofs.Common.{refl, rules}
use Rattle.history.proofs.AsksLemmas.{AsksInTurn-none}
use Rattle.farm_machine.specs.Law.{opened}
use Rattle.farm_machine.specs.Step.{farm_rules}
use Rattle.farm_server.proofs.connection.answer.Goals as goal

pub returns-in-Err-clause-ends : goal.returns-in-Err-clause-ends
returns-in-Err-clause-ends g c =
    (refl, AsksInTurn-none farm_rules opened (g.K.Desk.stands c.args.desk.now), refl)

pub returns-in-Err-write_reply-clause-ends : goal.returns-in-Err-write_reply-clause-ends
returns-in-Err-write_reply-clause-ends g c =
    record {
      reply = c.ask-reply.result;
      call = c.in-Ok.call;
      routed = search rules;
      once = search rules;
      written = search rules;
      gate = search rules;
      rose = search rules;
      later = search rules;
    }

-- the definition of a task that a message makes is said by its body
pub ask-reply-requires-clause-said : goal.ask-reply-requires-clause-said
ask-reply-requires-clause-said g c = c.a_called_task_is_said.ensures c.args.message c.in-Ok.call c.in-Ok.ensures
