use Rattle.std.proofs.Common.{List, ℕ, ◌∙◌, subst}
use Rattle.role_expand.specs.Roles.{RoleData}
use Rattle.hawk_auth.specs.Header.{HeaderData, header_data}
use Rattle.hawk_auth.specs.Clients.{ClientData, client_data}
use Rattle.hawk_auth.specs.Access.{Expands, IsFirst, UnlessNoMemory, ext_conditions, own_scopes}
use Rattle.hawk_auth.specs.Admitted.{within_conditions}
use Rattle.hawk_auth.proofs.AccessLemmas.{unless, limits_once, expands_own, within}
use Rattle.hawk_auth.proofs.check.admit_by_ext.Goals as goal

pub returns-in-Everything : goal.returns-in-Everything
returns-in-Everything c =
    let roles : List RoleData = c.args.roles.now in
    let h : HeaderData = header_data c.args.header.now in
    let client : ClientData = client_data c.args.client.now in
    let all = rw c.in-Everything.is at c.in-Ok.ensures in
    let expanded = subst (λ (start : List (List ℕ)). UnlessNoMemory (Expands roles start) c.expand.result) (c.deref.ensures.value ∙ c.in-Ok-own_scopes.ensures) c.expand.ensures in
    unless (Expands roles (own_scopes client)) (IsFirst (ext_conditions roles h client))
    (expands_own roles h client (limits_once c.a_text_is_of_one_document.ensures h.ext) all) c.expand.result expanded

pub returns : goal.returns
returns c =
    let roles : List RoleData = c.args.roles.now in
    let h : HeaderData = header_data c.args.header.now in
    let client : ClientData = client_data c.args.client.now in
    let scopes : List (List ℕ) = c.in-Only.scopes.items in
    let only = rw c.in-Only.is at c.in-Ok.ensures in
    let first = subst (λ (own : List (List ℕ)). UnlessNoMemory (IsFirst (within_conditions roles own scopes)) c.admit_within.result) (c.deref-in-Only.ensures.value ∙ c.in-Ok-own_scopes.ensures) c.admit_within.ensures in
    unless (IsFirst (within_conditions roles (own_scopes client) scopes)) (IsFirst (ext_conditions roles h client))
    (within roles h client (limits_once c.a_text_is_of_one_document.ensures h.ext) scopes only) c.admit_within.result first
