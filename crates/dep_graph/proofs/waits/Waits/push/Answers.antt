use Rattle.std.proofs.Common.{◌≡◌, ◌∙◌, ◌<◌, length, slice_set, ap, subst, sym, rules}
use Rattle.dep_graph.proofs.waits.Waits.push.Goals as goal

pub put-requires : goal.put-requires
put-requires c =
    let len : c.len-place.result ≡ length c.args.self.now.lacking.items = search rules in
    subst (λ n. n < length c.args.self.now.ready) (sym len) c.requires.place

pub returns-clause-ready : goal.returns-clause-ready
returns-clause-ready c =
    let ready = c.args.self.now.ready in
    let len : c.len-place.result ≡ length c.args.self.now.lacking.items = search rules in
    c.put.ensures ∙ (ap (λ n. slice_set ready n c.shown.result) len ∙ ap (slice_set ready (length c.args.self.now.lacking.items)) c.shown.ensures)
