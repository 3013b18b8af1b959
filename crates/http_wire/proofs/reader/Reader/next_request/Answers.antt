use Rattle.std.proofs.Common.{◌≡◌, subst}
use Rattle.http_wire.specs.Needed.{IsUnfinished}
use Rattle.http_wire.proofs.reader.Reader.next_request.Goals as goal

pub returns-clause-untouched : goal.returns-clause-untouched
returns-clause-untouched g c finished =
    let held : c.args.self.now ≡ c.self.inside.held.items = cc in
    c.next_message.ensures.untouched (subst (λ bytes. ¬ IsUnfinished bytes) held finished)
