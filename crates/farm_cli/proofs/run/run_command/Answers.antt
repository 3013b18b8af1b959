use Rattle.farm_cli.proofs.RunLemmas.{RanCommand-loaded, RanCommand-rendered, RanCommand-signed}
use Rattle.farm_cli.proofs.run.run_command.Goals as goal

pub returns-in-Sign-clause-ran : goal.returns-in-Sign-clause-ran
returns-in-Sign-clause-ran g c =
    RanCommand-signed _ _ _ _ _ _ _ _ c.in-Sign.is (record { openings = c.sign_over.ensures.refusals; file = c.sign_over.ensures.file; used = c.sign_over.ensures.used })

pub returns-in-Bulk-clause-ran : goal.returns-in-Bulk-clause-ran
returns-in-Bulk-clause-ran g c =
    RanCommand-loaded _ _ _ _ _ _ _ _ c.in-Bulk.is (record { openings = c.load_over.ensures.refusals; file = c.load_over.ensures.file; used = c.load_over.ensures.used })

pub returns-in-Render-clause-ran : goal.returns-in-Render-clause-ran
returns-in-Render-clause-ran g c =
    RanCommand-rendered _ _ _ _ _ _ _ c.in-Render.is (record { openings = c.render_over.ensures.refusals; file = c.render_over.ensures.file; used = c.render_over.ensures.used })
