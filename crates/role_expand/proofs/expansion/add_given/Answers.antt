use Rattle.std.proofs.Common.{ℕ, List, ◌++◌, get_or, Contains, ◌↔◌, string_bytes}
use Rattle.std.proofs.lemmas.List.Elements.{All-contains, Contains-get_or, Contains-append_right}
use Rattle.std.proofs.lemmas.Result.{err_from_is_err_and}
use Rattle.role_expand.specs.Roles.{HasHoleForm, EndsWithStar, SplitsAtHole, Gives}
use Rattle.role_expand.specs.Growth.{Gains}
use Rattle.role_expand.specs.Known.{filled_data}
use Rattle.role_expand.specs.declared.roles.KnownRole.{KnownRole}
use Rattle.role_expand.specs.declared.expansion.TheConstants.{MOST_SCOPES}
use Rattle.role_expand.proofs.GrowthLemmas.{gains_more, fails_wider, fails_after}
use Rattle.role_expand.proofs.GivesLemmas.{same_listed, any_listed}
use Rattle.role_expand.proofs.PlainLemmas.{Gives-from_plain, Gives-from_part, parts_of_Gives, AllFound-more}
use Rattle.role_expand.proofs.expansion.add_given.Goals as goal

has_listed : (known : KnownRole) (s : List ℕ) → Contains (known.plain ++ known.filled) s ↔ Contains known.role.scopes.items s
has_listed known = same_listed (known.plain ++ known.filled) known.role.scopes.items known.listed

is_free : (known : KnownRole) (s before after : List ℕ) → EndsWithStar (string_bytes known.role.id) → Contains known.plain s → SplitsAtHole s before after → ⊥
is_free known s before after ends h cut = known.free s before after ends (any_listed known.plain s h) cut

pub returns-in_err-done : goal.returns-in_err-done
returns-in_err-done c =
    let known = c.args.known.now in
    let p = err_from_is_err_and c.from_residual.result c.from_residual.ensures.1 in
    rw (p.1, p.2) (fails_wider MOST_SCOPES _ _ _ _ c.in_err-done.ensures (Gives-from_plain (string_bytes known.role.id) known.role.scopes.items known.plain known.filled (has_listed known) (is_free known) c.args.held.now))

pub add_with_parameter-requires : goal.add_with_parameter-requires
add_with_parameter-requires c =
    let known = c.args.known.now in
    λ ends k d lt. All-contains HasHoleForm known.role.scopes.items (get_or known.filled k d) (c.requires.form.holes_form ends)
    ((has_listed known (get_or known.filled k d)).0 (Contains-append_right known.plain known.filled (get_or known.filled k d) (Contains-get_or known.filled k d lt)))

pub returns-in_err-add_with_parameter : goal.returns-in_err-add_with_parameter
returns-in_err-add_with_parameter c =
    let known = c.args.known.now in
    let p = err_from_is_err_and c.from_residual-in_err-add_with_parameter.result c.from_residual-in_err-add_with_parameter.ensures.1 in
    rw (p.1, p.2)
    (fails_after MOST_SCOPES _ _ _ _ _ _ c.in_ok-done.ensures.0 c.in_err-add_with_parameter.ensures
    (Gives-from_plain (string_bytes known.role.id) known.role.scopes.items known.plain known.filled (has_listed known) (is_free known) c.args.held.now)
    (Gives-from_part (string_bytes known.role.id) known.role.scopes.items known.plain known.filled (has_listed known) (is_free known) c.args.held.now))

pub returns : goal.returns
returns c =
    let known = c.args.known.now in
    let g : Gains MOST_SCOPES (Gives (filled_data known) c.args.held.now) c.add_plain.new.found c.add_with_parameter.new.found = c.in_ok-add_with_parameter.ensures in (
      gains_more MOST_SCOPES _ _ _ _ _ _ c.in_ok-done.ensures.0 g
          (Gives-from_plain (string_bytes known.role.id) known.role.scopes.items known.plain known.filled (has_listed known) (is_free known) c.args.held.now)
          (Gives-from_part (string_bytes known.role.id) known.role.scopes.items known.plain known.filled (has_listed known) (is_free known) c.args.held.now)
          (parts_of_Gives (string_bytes known.role.id) known.role.scopes.items known.plain known.filled (has_listed known) (is_free known) c.args.held.now),
      λ e. AllFound-more known.plain c.add_plain.new.found c.add_with_parameter.new.found g.since g.is (c.in_ok-done.ensures.1 e),
    )
