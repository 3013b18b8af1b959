-- Which call a message makes, and who sends it (the routes of the queue and hooks services in the Taskcluster reference).
use Rattle.std.specs.Prelude.{◌≡◌, ◌⊎◌, ℕ, List, ◌==◌, map, Option, Some, None}
use Rattle.std.specs.List.{before_first, after_first}
use Rattle.percent_encoding.specs.Percent.{percent_decode}
use Rattle.http_wire.specs.declared.message.Message.{Message}
use Rattle.route_table.specs.Fits.{Fits}
use Rattle.route_table.specs.declared.route.Route.{Route}
use Rattle.farm_asks.specs.declared.question.Call.{Call}
use Rattle.farm_asks.specs.declared.question.Call.TheVariants.{NoRoute}
use Rattle.farm_asks.specs.declared.question.Caller.{Caller}
use Rattle.farm_asks.specs.declared.question.Caller.TheVariants.{Anonymous, Signed}
use Rattle.farm_asks.specs.declared.question.Credentials.{Credentials}
use Rattle.farm_asks.specs.Questions.{Asking}
use Rattle.api_routes.specs.Calls.{Request, Calls}
use Rattle.api_routes.specs.Names.{route_name}

-- the target before its query (RFC 3986, section 3.4)
abbrev pub path_of : List ℕ → List ℕ
path_of target = before_first (λ b. b == 63) target

-- what stands behind it (nothing, where there is no `?`)
abbrev pub query_of : List ℕ → List ℕ
query_of target = after_first (λ b. b == 63) target

-- what a call of a message is read from, where these parts of its path stand for the parameters of its route
abbrev pub request_of : Message → List (List ℕ) → Request
request_of message parameters = record {
  parts = map percent_decode parameters;
  query = query_of message.target;
  body = message.body;
}

-- what a message calls: what the route calls that its method and path fit (they fit at most one), and nothing where they fit none
unfoldable pub IsCallOf : Message → Call → Type 0
IsCallOf message call =
    ((route : Route) × (parameters : List (List ℕ)) × Fits route message.method (path_of message.target) parameters
    × Calls route (request_of message parameters) call)
    ⊎ (((route : Route) (parameters : List (List ℕ)) → ¬ Fits route message.method (path_of message.target) parameters)
    × (call ≡ NoRoute (route_name (path_of message.target))))

-- the credentials of a message whose first Authorization field has this value (RFC 9110, section 11.6.2), and what of it they sign
abbrev pub credentials_of : Message → List ℕ → Credentials
credentials_of message value = record {
  header = value;
  count = message.authorizations;
  method = message.method;
  target = message.target;
  content_type = message.content_type;
  body = message.body;
}

-- who sends a message with such a field, or without one
abbrev pub caller_by : Message → Option (List ℕ) → Caller
caller_by message None = Anonymous
caller_by message (Some value) = Signed (credentials_of message value)

-- who sends a message
abbrev pub caller_from : Message → Caller
caller_from message = caller_by message message.authorization

-- the question of a message that makes this call, with the moment and the id that were told for it
abbrev pub question_of : Message → Call → ℕ → List ℕ → Asking
question_of message call moment id = record { moment = moment; drawn = id; caller = caller_from message; call = call }
