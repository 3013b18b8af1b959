use Rattle.std.proofs.Common.{rules, ◌≡◌, ◌≢◌, ◌<◌, ◌∙◌, List, ℕ, Some, arith, subst, sym, length}
use Rattle.std.proofs.lemmas.List.{length-map}
use Rattle.std.proofs.lemmas.Map.Text.{btree_map_updates_text}
use Rattle.std.specs.BTreeMap.{get_by_text}
use Rattle.std.specs.List.{slice_get}
use Rattle.std.specs.String.{string_bytes}
use Rattle.hawk_auth.specs.Clients.{ClientData, client_data, clients_data}
use Rattle.hawk_auth.proofs.PlaceLemmas.{get_mapped, AllPairs_more}
use Rattle.hawk_auth.proofs.RepeatLemmas.{place_more, all_apart}
use Rattle.hawk_auth.specs.Places.{IsPlaceOf}
use Rattle.hawk_auth.proofs.book.places_of.Goals as goal

pub returns-in-Some : goal.returns-in-Some
returns-in-Some c =
    let clients : List ClientData = clients_data c.args.clients.now in
    let later : ℕ = c.loop-later.later in
    let h = subst (IsPlaceOf clients later c.as_str.result.now) (sym c.in-Some.ensures.value) (c.loop-later.invariant.1 c.as_str.result.now) in
    record {
      earlier = h.0;
      first = h.1.0;
      second = client_data c.index-clients-later.result;
      at_i = h.1.1;
      at_j = get_mapped client_data c.args.clients.now later c.index-clients-later.result (omega arith) c.index-clients-later.is;
      same = h.1.2 ∙ c.as_str.ensures;
      before = c.loop-later.invariant.0;
    }

pub loop-later-preserved : goal.loop-later-preserved
loop-later-preserved c =
    let clients : List ClientData = clients_data c.args.clients.now in
    let later : ℕ = c.loop-later.later in
    let client : ClientData = client_data c.index-clients-later.result in
    let lt : later < length c.args.clients.now = omega arith in
    let at : slice_get clients later ≡ Some client = get_mapped client_data c.args.clients.now later c.index-clients-later.result lt c.index-clients-later.is in
    let none = subst (IsPlaceOf clients later c.as_str.result.now) (sym c.in_default.ensures.value) (c.loop-later.invariant.1 c.as_str.result.now) in
    let copy : string_bytes c.in_ok-id.id ≡ client.id = search rules in (
      AllPairs_more client_data c.args.clients.now later c.index-clients-later.result lt c.index-clients-later.is (λ p q. p.id ≢ q.id) c.loop-later.invariant.0
          (all_apart clients later client.id (omega (arith, lt, length-map c.args.clients.now client_data)) (λ k r low here e. none k r low here (e ∙ sym c.as_str.ensures))),
      λ id. place_more clients later client at id (get_by_text c.loop-later.places id) (get_by_text c.insert.new.self id)
          (rw copy at (btree_map_updates_text (string_bytes c.in_ok-id.id) c.loop-later.places c.insert.new.self (Some later) c.in-Ok.ensures.updates id)) (c.loop-later.invariant.1 id),
    )
