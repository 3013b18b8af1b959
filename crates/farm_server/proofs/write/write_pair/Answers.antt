use Rattle.farm_server.proofs.WriteLemmas.{AppendsFront-first}
use Rattle.farm_server.proofs.write.write_pair.Goals as goal

pub returns-in-Err : goal.returns-in-Err
returns-in-Err g c = record {
  ok = tt;
  front = AppendsFront-first (g.L.Link.written c.args.link.now) (g.L.Link.written c.write_all.new.link) c.args.head.now c.args.body.now c.in-Err.ensures.front;
  cause = record { later = c.in-Err.ensures.cause.later; failed = c.in-Err.ensures.cause.failed; kept = tt };
  left = c.in-Err.ensures.left;
  read_faults = c.in-Err.ensures.read_faults;
}
