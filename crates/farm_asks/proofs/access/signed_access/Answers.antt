-- What the check says of the request is what the caller may do.
use Rattle.std.proofs.Common.{◌≡◌, ◌<◌, ◌^◌, Ok, Err, refl, sym, arith}
use Rattle.std.specs.Option.{option_copied}
use Rattle.hawk_auth.specs.Access.{HasAccess as IsLetIn}
use Rattle.farm_asks.specs.Access.{Refused, access_by, head_of}
use Rattle.farm_asks.proofs.FaultLemmas.{both, has_seconds, same_head, let_in}
use Rattle.farm_asks.proofs.access.signed_access.Goals as goal

pub refused_caller-requires : goal.refused_caller-requires
refused_caller-requires c =
    let config = c.args.config.now in
    let credentials = c.args.credentials.now in
    let head = same_head config credentials c.as_slice.result.now c.as_slice-2.result.now c.as_slice-3.result.now (option_copied c.content_type_of.result) c.as_slice-4.result.now c.as_str.result.now
    c.as_slice.ensures c.as_slice-2.ensures c.as_slice-3.ensures c.content_type_of.ensures c.as_slice-4.ensures c.as_str.ensures in
    let fits : c.args.moment < 2 ^ 63 = omega (arith, c.millis-millis.ensures.value, c.millis-millis.ensures.within) in
    has_seconds config.clients config.roles (head_of config credentials) c.args.moment credentials.header c.in-Err.fault refl fits
    (let_in config credentials c.args.moment c.roles.result.now _ (Err c.in-Err.fault) c.roles.ensures head c.in-Err.ensures.access)

pub returns-in-Ok : goal.returns-in-Ok
returns-in-Ok c =
    let config = c.args.config.now in
    let credentials = c.args.credentials.now in
    let head = same_head config credentials c.as_slice.result.now c.as_slice-2.result.now c.as_slice-3.result.now (option_copied c.content_type_of.result) c.as_slice-4.result.now c.as_str.result.now
    c.as_slice.ensures c.as_slice-2.ensures c.as_slice-3.ensures c.content_type_of.ensures c.as_slice-4.ensures c.as_str.ensures in
    let has = let_in config credentials c.args.moment c.roles.result.now _ (Ok c.in-Ok.scopes) c.roles.ensures head c.in-Ok.ensures.access in
    (Ok c.in-Ok.scopes, (c.in-Ok.ensures.book, has), refl)

pub returns-in_ok-refused_caller-in-Err : goal.returns-in_ok-refused_caller-in-Err
returns-in_ok-refused_caller-in-Err c =
    let config = c.args.config.now in
    let credentials = c.args.credentials.now in
    let head = same_head config credentials c.as_slice.result.now c.as_slice-2.result.now c.as_slice-3.result.now (option_copied c.content_type_of.result) c.as_slice-4.result.now c.as_str.result.now
    c.as_slice.ensures c.as_slice-2.ensures c.as_slice-3.ensures c.content_type_of.ensures c.as_slice-4.ensures c.as_str.ensures in
    let answer = c.in_ok-refused_caller-in-Err.field-0 in
    let has = let_in config credentials c.args.moment c.roles.result.now _ (Err c.in-Err.fault) c.roles.ensures head c.in-Err.ensures.access in
    let (admission, is, told) = both (IsLetIn config.clients config.roles (head_of config credentials) c.args.moment) (λ access. access_by access ≡ Refused answer) c.in-Err.fault
    c.in_ok-refused_caller-in-Err.ensures.known has c.in_ok-refused_caller-in-Err.ensures.answer in
    (admission, (c.in-Err.ensures.book, is), sym told)
