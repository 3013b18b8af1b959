use Rattle.std.proofs.Common.{◌≡◌, ◌<◌, ℕ, List, Some, length, get_or, arith, sym, ap, ◌∙◌, subst}
use Rattle.std.proofs.lemmas.List.{length-map}
use Rattle.std.proofs.lemmas.Option.{slice_get-get_or}
use Rattle.std.specs.List.{All, Contains, slice_get}
use Rattle.std.specs.Prelude.{◌≢◌}
use Rattle.hawk_auth.specs.Clients.{ClientData, client_data, clients_data}
use Rattle.hawk_auth.specs.Places.{IsPlaceOf}
use Rattle.hawk_auth.proofs.PlaceLemmas.{get_mapped, at}
use Rattle.hawk_auth.proofs.book.ClientBook.find.Goals as goal

pub returns-in_default-clause-client : goal.returns-in_default-clause-client
returns-in_default-clause-client c =
    let clients : List ClientData = clients_data c.self.inside.clients.items in
    let none = subst (IsPlaceOf clients (length clients) c.args.id.now) (sym c.in_default.ensures.value) (c.self.invariant.1 c.args.id.now) in
    subst (λ (cs : List ClientData). All (λ x. x.id ≢ c.args.id.now) cs) c.self.view_is
    (λ k d lt e. none k (get_or clients k d) lt (slice_get-get_or clients k d lt) e)

pub index-requires : goal.index-requires
index-requires c =
    let clients : List ClientData = clients_data c.self.inside.clients.items in
    let found = subst (IsPlaceOf clients (length clients) c.args.id.now) (sym c.in-Some.ensures.value) (c.self.invariant.1 c.args.id.now) in
    omega (arith, found.0, length-map c.self.inside.clients.items client_data, c.self.inside.clients.ok.0)

pub returns-clause-client : goal.returns-clause-client
returns-clause-client c =
    let items = c.self.inside.clients.items in
    let clients : List ClientData = clients_data items in
    let place : ℕ = c.in-Some.place.now in
    let client : ClientData = client_data c.index.result.now in
    let found = subst (IsPlaceOf clients (length clients) c.args.id.now) (sym c.in-Some.ensures.value) (c.self.invariant.1 c.args.id.now) in
    let lt : place < length items = omega (arith, found.0, length-map items client_data) in
    let here : slice_get clients place ≡ Some client = get_mapped client_data items place c.index.result.now lt c.index.ensures in
    let both : Some found.1.0 ≡ Some client = sym found.1.1 ∙ here in
    let same : found.1.0 ≡ client = cc in (
      subst (λ (cs : List ClientData). Contains cs client) c.self.view_is
          (place, found.0, at client_data items place c.index.result.now lt c.index.ensures client),
      ap (λ (x : ClientData). x.id) (sym same) ∙ found.1.2,
    )
