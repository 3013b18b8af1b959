-- What one connection did, and its link's return to the door.
use Rattle.std.proofs.Common.{◌≡◌, ℕ, ◌-◌, [], ◌∷◌, length, subst, arith}
use Rattle.farm_text.specs.Logs.{LogGrows}
use Rattle.http_wire.specs.Calls.{LinkState}
use Rattle.farm_serving.specs.Numbers.{of_connection}
use Rattle.farm_serving.proofs.worker.Worker.serve_peer.Goals as goal

pub serve_link-served-requires : goal.serve_link-served-requires
serve_link-served-requires g c = c.requires.spare

pub overflow_sub-asked : goal.overflow_sub-asked
overflow_sub-asked g c = omega (arith, c.left-before.ensures, c.left.ensures, c.serve_link-served.ensures.serves.spent)

pub done-requires : goal.done-requires
done-requires g c = record { out = c.requires.out }

pub returns-clause-home : goal.returns-clause-home
returns-clause-home g c = c.serve_link-served.ensures.home

pub returns-clause-serves : goal.returns-clause-serves
returns-clause-serves g c =
    let s = c.serve_link-served.ensures.serves in
    let now = c.serve_link-served.new in
    let asked : c.left-before.result - c.left.result ≡ length s.asks = omega (arith, c.left-before.ensures, c.left.ensures, s.spent) in
    let back : LinkState = record { left = g.D.Peer.Link.left now.link; written = g.D.Peer.Link.written now.link; read_faults = g.D.Peer.Link.read_faults now.link; write_faults = g.D.Peer.Link.write_faults now.link } in
    record {
      back = back;
      asks = s.asks;
      replies = s.replies;
      served = c.serve_link-served.result;
      spoke = s.spoke;
      none_given = c.done.ensures.given;
      taken = subst (λ (n : ℕ). LogGrows (g.D.Listener.taken c.args.self.now.door) (g.D.Listener.taken c.done.new.self) ((back, n) ∷ [])) asked c.done.ensures.taken;
      out = c.done.ensures.out;
      none_made = c.done.ensures.accepts;
      faults = c.done.ensures.faults;
      counted = subst (λ (n : ℕ). c.connection.result ≡ of_connection n c.serve_link-served.result) asked c.connection.ensures;
      asked = s.asked;
      spent = s.spent;
    }
