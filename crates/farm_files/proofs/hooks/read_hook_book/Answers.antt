use Rattle.std.proofs.Common.{List, sym, subst}
use Rattle.std.specs.Prelude.{codes}
use Rattle.std.proofs.lemmas.Result.{err_from_is_err_and}
use Rattle.hook_book.specs.Hooks.{HookData}
use Rattle.toml.specs.Data.{get_member}
use Rattle.toml.specs.View.{table_view}
use Rattle.farm_files.specs.Hooks.{AreHooks, hooks_in}
use Rattle.farm_files.proofs.hooks.read_hook_book.Goals as goal

pub returns-in_err-hooks : goal.returns-in_err-hooks
returns-in_err-hooks c =
    let p = err_from_is_err_and c.from_residual.result c.from_residual.ensures.1 in rw (p.1, p.2) c.in_err-hooks.ensures

pub returns : goal.returns
returns c = (
  c.in_ok-hooks.ensures.0,
  subst (λ (all : List HookData). AreHooks (hooks_in (get_member (codes "hook") (table_view c.args.top.now))) all) (sym c.in_ok-hook_book.ensures) c.in_ok-hooks.ensures.1,
)
