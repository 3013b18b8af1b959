use Rattle.std.proofs.Common.{inr, List}
use Rattle.role_expand.specs.Roles.{RoleData}
use Rattle.hawk_auth.specs.Header.{HeaderData, header_data}
use Rattle.hawk_auth.specs.Clients.{ClientData, client_data}
use Rattle.hawk_auth.specs.Access.{HeadData, head_data, HasSignedAccess, IsFirst, conditions}
use Rattle.hawk_auth.proofs.AccessLemmas.{unless}
use Rattle.hawk_auth.proofs.book.ClientBook.check_signed.Goals as goal

pub returns-in-Some : goal.returns-in-Some
returns-in-Some c =
    let clients : List ClientData = c.args.self.now in
    let roles : List RoleData = c.args.roles.now in
    let head : HeadData = head_data c.args.head.now in
    let h : HeaderData = header_data c.in-Ok.header in
    let client : ClientData = client_data c.in-Some.client.now in
    unless (IsFirst (conditions roles head c.args.moment h client)) (HasSignedAccess clients roles head c.args.moment c.args.value.now)
    (λ a first. inr (c.if-head-ne1.false, (h, c.in-Ok.ensures, inr (client, c.in-Some.ensures.client, first))))
    c.admit.result c.admit.ensures
