use Rattle.std.proofs.Common.{◌≡◌}
use Rattle.hook_book.specs.Hooks.{hooks_data}
use Rattle.farm_files.proofs.hooks.hook_book.Given as goal

abbrev pub invariant-loop-hook : goal.invariant-loop-hook
invariant-loop-hook l = l.book ≡ hooks_data l.yielded
