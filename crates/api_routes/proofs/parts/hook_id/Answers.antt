-- Whatever has the form is a text.
use Rattle.std.proofs.Common.{◌≡◌, sym, ◌∙◌, subst}
use Rattle.std.specs.Str.{IsUtf8}
use Rattle.percent_encoding.specs.Percent.{percent_decode}
use Rattle.api_routes.proofs.QueueLemmas.{hook_text}
use Rattle.api_routes.proofs.parts.hook_id.Goals as goal

pub returns : goal.returns
returns c = λ form.
    let is : c.deref.result.now ≡ percent_decode c.args.part.now = c.deref.ensures.value ∙ c.in_ok-text.ensures in
    c.in-Err.ensures.cases.0 (subst IsUtf8 (sym is) (hook_text (percent_decode c.args.part.now) form))
