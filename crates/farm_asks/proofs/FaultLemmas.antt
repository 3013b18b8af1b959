-- What a refusal of credentials tells: its seconds are few enough for an `i64`, and its answer is that of the caller's access.
use Rattle.std.proofs.Common.{◌≡◌, ◌≢◌, ℕ, ◌-◌, ◌<◌, ◌≤◌, ◌^◌, ◌/◌, List, [], ◌∷◌, map, length, Option, Some, Result, Err, inl, inr, refl, subst, arith, lit<}
use Rattle.std.proofs.Math.Nat.{pow-le-pow_right}
use Rattle.std.proofs.lemmas.List.{length-map}
use Rattle.std.proofs.lemmas.List.Elements.{All-head, All-tail}
use Rattle.std.specs.Char.{IsAsciiDigit}
use Rattle.std.specs.List.{All}
use Rattle.std.specs.Int.Digits.{AllBelowBase}
use Rattle.std.proofs.lemmas.Int.Digits.{number_lt}
use Rattle.role_expand.specs.Roles.{RoleData}
use Rattle.scope_sets.specs.Expressions.{view}
use Rattle.hawk_auth.specs.Access.{Access as Admission, BadHeader, UnknownClient, Disabled, Expired, Skew, BadMac, BadHash, BadExt, Oversteps, TooMany, HeadData, HasAccess as IsLetIn, HasSignedAccess, IsFirst, UnlessNoMemory, conditions, seconds_of}
use Rattle.hawk_auth.specs.Clients.{ClientData}
use Rattle.hawk_auth.specs.Header.{HeaderData, IsTs}
use Rattle.hawk_auth.specs.declared.check.AuthFault.{AuthFault}
use Rattle.hawk_auth.specs.declared.check.AuthFault.TheVariants as told
use Rattle.farm_asks.specs.declared.config.Config.{Config}
use Rattle.farm_asks.specs.declared.question.Credentials.{Credentials}
use Rattle.farm_asks.specs.Access.{head_of}
use Rattle.farm_asks.specs.Told.{HasSeconds}

-- what the check tells has both of two facts
pub both : (P Q : Admission → Type 0) (fault : AuthFault) → fault ≢ told.NoMemory → UnlessNoMemory P (Err fault) → UnlessNoMemory Q (Err fault) → (admission : Admission) × P admission × Q admission
both P Q told.BadHeader other p q = (Err BadHeader, p, q)
both P Q told.UnknownClient other p q = (Err UnknownClient, p, q)
both P Q told.Disabled other p q = (Err Disabled, p, q)
both P Q told.Expired other p q = (Err Expired, p, q)
both P Q (told.Skew ts now) other p q = (Err (Skew ts now), p, q)
both P Q told.BadMac other p q = (Err BadMac, p, q)
both P Q told.BadHash other p q = (Err BadHash, p, q)
both P Q told.BadExt other p q = (Err BadExt, p, q)
both P Q (told.Oversteps lack) other p q = (Err (Oversteps (view lack)), p, q)
both P Q told.TooMany other p q = (Err TooMany, p, q)
both P Q told.NoMemory other p q = absurd (other refl)

-- a ts has at most twelve digits
digits_below : (ts : List ℕ) → All IsAsciiDigit ts → AllBelowBase 10 (map (λ b. b - 48) ts)
digits_below [] digits = tt
digits_below (t ∷ ts) digits =
    let digit = All-head IsAsciiDigit t ts digits in
    (omega (arith, digit.0, digit.1), digits_below ts (All-tail IsAsciiDigit t ts digits))

power : (n : ℕ) → n ≤ 12 → 10 ^ n ≤ 10 ^ 12
power n few = pow-le-pow_right (lit< tt) few

seconds_small : (ts : List ℕ) → IsTs ts → seconds_of ts < 10 ^ 12
seconds_small ts is =
    let digits = map (λ b. b - 48) ts in
    let few : length digits ≤ 12 = omega (arith, is.short, length-map ts (λ (b : ℕ). b - 48)) in
    omega (arith, number_lt 10 digits (digits_below ts is.digits), power (length digits) few)

module _ (roles : List RoleData) (head : HeadData) (moment : ℕ) (ts now : ℕ) where
  -- the seconds that a skew tells are those of the header and of the moment
  skew_is : (h : HeaderData) (c : ClientData) → IsFirst (conditions roles head moment h c) (Err (Skew ts now)) → (ts ≡ seconds_of h.ts) × (now ≡ moment / 1000)
  skew_is h c (inl p) = let e = p.1 in cc
  skew_is h c (inr (_, inl p)) = let e = p.1 in cc
  skew_is h c (inr (_, inr (_, inl p))) = let e = p.1 in (cc, cc)
  skew_is h c (inr (_, inr (_, inr (_, inl p)))) = let e = p.1 in cc
  skew_is h c (inr (_, inr (_, inr (_, inr (_, inl p))))) = let e = p.1 in cc
  skew_is h c (inr (_, inr (_, inr (_, inr (_, inr (_, inl p)))))) = let e = p.1 in cc
  skew_is h c (inr (_, inr (_, inr (_, inr (_, inr (_, inr (_, inl p))))))) = let e = p.2.1 in cc
  skew_is h c (inr (_, inr (_, inr (_, inr (_, inr (_, inr (_, inr (_, inl p)))))))) = let e = p.5.1 in cc
  skew_is h c (inr (_, inr (_, inr (_, inr (_, inr (_, inr (_, inr (_, inr (_, inl p))))))))) = let e = p.2.1 in cc
  skew_is h c (inr (_, inr (_, inr (_, inr (_, inr (_, inr (_, inr (_, inr (_, inr (_, p)))))))))) = absurd p

  pub skew_small : (clients : List ClientData) (value : List ℕ) → HasSignedAccess clients roles head moment value (Err (Skew ts now)) → moment < 2 ^ 63 → (ts < 2 ^ 63) × (now < 2 ^ 63)
  skew_small clients value (inl p) fits = let e = p.1 in cc
  skew_small clients value (inr (count, (h, is, inl p))) fits = let e = p.1 in cc
  skew_small clients value (inr (count, (h, is, inr (c, of, first)))) fits =
      let told = skew_is h c first in
      let small : seconds_of h.ts < 10 ^ 12 = seconds_small h.ts is.says.ts_form in
      (omega (arith, told.0, small), omega (arith, told.1))

-- the seconds that the check tells are few
pub has_seconds : (clients : List ClientData) (roles : List RoleData) (head : HeadData) (moment : ℕ) (value : List ℕ) (fault : AuthFault) → head.header ≡ Some value → moment < 2 ^ 63 → UnlessNoMemory (IsLetIn clients roles head moment) (Err fault) → HasSeconds fault
has_seconds clients roles head moment value told.BadHeader is fits p = tt
has_seconds clients roles head moment value told.UnknownClient is fits p = tt
has_seconds clients roles head moment value told.Disabled is fits p = tt
has_seconds clients roles head moment value told.Expired is fits p = tt
has_seconds clients roles head moment value (told.Skew ts now) is fits p = skew_small roles head moment ts now clients value (rw is at p) fits
has_seconds clients roles head moment value told.BadMac is fits p = tt
has_seconds clients roles head moment value told.BadHash is fits p = tt
has_seconds clients roles head moment value told.BadExt is fits p = tt
has_seconds clients roles head moment value (told.Oversteps lack) is fits p = tt
has_seconds clients roles head moment value told.TooMany is fits p = tt
has_seconds clients roles head moment value told.NoMemory is fits p = tt

-- what is told of a request is what its credentials and the configuration tell
pub same_head : (config : Config) (credentials : Credentials) (value method target : List ℕ) (content_type : Option (List ℕ)) (body host : List ℕ) → value ≡ credentials.header → method ≡ credentials.method → target ≡ credentials.target → content_type ≡ credentials.content_type → body ≡ credentials.body → host ≡ config.host
    → record { header = Some value; count = credentials.count; method = method; target = target; content_type = content_type; body = body; host = host; port = config.port } ≡ head_of config credentials
same_head config credentials value method target content_type body host a b c d e f = rw (a, b, c, d, e, f) refl

-- and so is what the check of it says
pub let_in : (config : Config) (credentials : Credentials) (moment : ℕ) (roles : List RoleData) (head : HeadData) (r : Result (List (List ℕ)) AuthFault) → roles ≡ config.roles → head ≡ head_of config credentials
    → UnlessNoMemory (IsLetIn config.clients roles head moment) r → UnlessNoMemory (IsLetIn config.clients config.roles (head_of config credentials) moment) r
let_in config credentials moment roles head r same_roles same p =
    subst (λ (x : HeadData). UnlessNoMemory (IsLetIn config.clients config.roles x moment) r) same
    (subst (λ (rs : List RoleData). UnlessNoMemory (IsLetIn config.clients rs head moment) r) same_roles p)
