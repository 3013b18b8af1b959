-- What a caller may do at a moment: it has all that its start list gives, or it is refused (the Taskcluster reference, "Roles" and "Clients"; Hawk, scheme 1).
use Rattle.std.specs.Prelude.{◌≡◌, ℕ, List, codes, Some, Ok, Err}
use Rattle.hawk_auth.specs.Access.{Access as Admission, Refusal, BadHeader, UnknownClient, Disabled, Expired, Skew, BadMac, BadHash, BadExt, Oversteps, TooMany, HeadData, Expands, anonymous_scopes, HasAccess as IsLetIn}
use Rattle.hawk_auth.specs.Clients.{IsBook}
use Rattle.farm_asks.specs.declared.config.Config.{Config}
use Rattle.farm_asks.specs.declared.question.Caller.{Caller}
use Rattle.farm_asks.specs.declared.question.Caller.TheVariants.{Anonymous, Signed}
use Rattle.farm_asks.specs.declared.question.Credentials.{Credentials}
use Rattle.farm_asks.specs.declared.reply.Answer.{Answer}
use Rattle.farm_asks.specs.Replies.{not_authentic, skewed, overstepping, expansion_limit}

-- what a caller may do: it has these scopes, or it is refused with this answer
pub data Access : Type 0 where
  Has : (scopes : List (List ℕ)) → Access
  Refused : (answer : Answer) → Access

-- what of a request with these credentials tells who calls a farm that is set up so
abbrev pub head_of : Config → Credentials → HeadData
head_of config credentials = record {
  header = Some credentials.header;
  count = credentials.count;
  method = credentials.method;
  target = credentials.target;
  content_type = credentials.content_type;
  body = credentials.body;
  host = config.host;
  port = config.port;
}

-- the answer to a caller who is refused so
abbrev pub refusal_of : Refusal → Answer
refusal_of BadHeader = not_authentic (codes "BadHeader")
refusal_of UnknownClient = not_authentic (codes "UnknownClient")
refusal_of Disabled = not_authentic (codes "Disabled")
refusal_of Expired = not_authentic (codes "Expired")
refusal_of (Skew ts now) = skewed ts now
refusal_of BadMac = not_authentic (codes "BadMac")
refusal_of BadHash = not_authentic (codes "BadHash")
refusal_of BadExt = not_authentic (codes "BadExt")
refusal_of (Oversteps lack) = overstepping lack
refusal_of TooMany = expansion_limit

-- what a caller may do who is let in with these scopes, or refused so
abbrev pub access_by : Admission → Access
access_by (Ok scopes) = Has scopes
access_by (Err refusal) = Refused (refusal_of refusal)

-- how a caller is let in: whoever gives no credentials with what its start list gives, and whoever gives some by the clients of the farm
abbrev pub IsAdmitted : Config → ℕ → Caller → Admission → Type 0
IsAdmitted config moment Anonymous admission = Expands config.roles anonymous_scopes admission
IsAdmitted config moment (Signed credentials) admission =
    IsBook config.clients × IsLetIn config.clients config.roles (head_of config credentials) moment admission

-- what a caller may do at a farm that is set up so, at this moment
abbrev pub HasAccess : Config → ℕ → Caller → Access → Type 0
HasAccess config moment caller access =
    (admission : Admission) × IsAdmitted config moment caller admission × (access ≡ access_by admission)
