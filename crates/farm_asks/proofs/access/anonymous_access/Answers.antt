-- What is kept is what the start list gives.
use Rattle.std.proofs.Common.{Ok, Err, refl, ap, subst}
use Rattle.hawk_auth.specs.Access.{TooMany, anonymous_scopes}
use Rattle.farm_asks.specs.Access.{Refused}
use Rattle.farm_asks.specs.Grants.{IsKeptOf}
use Rattle.farm_asks.proofs.access.anonymous_access.Goals as goal

pub returns-in-Whole : goal.returns-in-Whole
returns-in-Whole c = (Ok c.in-Whole.scopes, subst (IsKeptOf c.args.config.now.roles anonymous_scopes) c.in-Whole.is c.anonymous.ensures, refl)

pub returns-in_ok-expansion_limit-in-TooMany : goal.returns-in_ok-expansion_limit-in-TooMany
returns-in_ok-expansion_limit-in-TooMany c =
    (Err TooMany, (subst (IsKeptOf c.args.config.now.roles anonymous_scopes) c.in-TooMany.is c.anonymous.ensures, refl), ap Refused c.in_ok-expansion_limit-in-TooMany.ensures)
