use Rattle.std.proofs.Common.{◌≡◌, [], Err, sym, subst}
use Rattle.farm_text.specs.Doc.{document}
use Rattle.farm_text.specs.Document.{data_of}
use Rattle.farm_text.specs.Reading.{IsJson, unwhole}
use Rattle.jsone_render.specs.Answers.{IsAnswer}
use Rattle.jsone_render.specs.Templates.{IsRendered}
use Rattle.console_commands.specs.Rendering.{request_of, RenderingRefused, Says}
use Rattle.console_commands.proofs.RenderingLemmas.{refused_by}
use Rattle.console_commands.proofs.rendering.rendering.Goals as goal

-- the template has no value
pub returns-in-Err-render : goal.returns-in-Err-render
returns-in-Err-render c =
    let parts = c.in-Some.ensures in
    let says : Says c.args.input.now (request_of parts.0 (document c.in-Some.template.now)) = record {
      short = c.requires;
      json = subst (λ d. IsJson c.args.input.now (data_of d)) parts.2 c.in-Ok.ensures.document;
      whole = subst (λ d. unwhole (data_of d) ≡ []) parts.2 c.in-Ok.ensures.whole;
    } in
    let answer = subst (λ d. IsAnswer (IsRendered (document c.in-Some.template.now) d) (Err c.in-Err-render.fault)) parts.1 c.in-Err-render.ensures in
    subst (RenderingRefused c.args.input.now) (sym c.unrendered.ensures) (refused_by c.args.input.now parts.0 (document c.in-Some.template.now) c.in-Err-render.fault says answer)
