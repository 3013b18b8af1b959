use Rattle.std.proofs.Common.{◌<◌, length, ap, subst, Err, arith}
use Rattle.std.proofs.lemmas.Bool.Decides.{nat_tests}
use Rattle.httparse.specs.Spans.{RequestExceeds}
use Rattle.http_wire.proofs.HeadLemmas.{fields_fit}
use Rattle.http_wire.proofs.head.judge.Goals as goal

pub returns-in-Err : goal.returns-in-Err
returns-in-Err c =
    let some : 0 < length c.args.lines.now = grind (arith, nat_tests) in (
      some,
      c.in-Err.ensures.invalid (λ is. fields_fit c.args.lines.now c.requires.fits
          (subst (λ n. RequestExceeds n c.args.lines.now) c.requires.room (c.in-Err.ensures.too_many (ap Err is)))),
    )
