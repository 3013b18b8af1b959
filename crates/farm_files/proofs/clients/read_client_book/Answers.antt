use Rattle.std.proofs.Common.{List, sym, subst}
use Rattle.std.specs.Prelude.{codes}
use Rattle.std.proofs.lemmas.Result.{err_from_is_err_and}
use Rattle.hawk_auth.specs.Clients.{ClientData, clients_data}
use Rattle.toml.specs.Data.{get_member}
use Rattle.toml.specs.View.{table_view}
use Rattle.farm_files.specs.Clients.{AreClients, clients_in}
use Rattle.farm_files.proofs.BookLemmas.{book_apart, book_forms}
use Rattle.farm_files.proofs.clients.read_client_book.Goals as goal

pub returns-in_err-clients : goal.returns-in_err-clients
returns-in_err-clients c =
    let p = err_from_is_err_and c.from_residual.result c.from_residual.ensures.1 in rw (p.1, p.2) c.in_err-clients.ensures

pub client_book-requires-clause-forms : goal.client_book-requires-clause-forms
client_book-requires-clause-forms c =
    book_forms (get_member (codes "client") (table_view c.args.top.now)) (clients_data c.in_ok-clients.clients.items) c.in_ok-clients.ensures.1 c.in_ok-clients.ensures.0

pub client_book-requires-clause-apart : goal.client_book-requires-clause-apart
client_book-requires-clause-apart c =
    book_apart (get_member (codes "client") (table_view c.args.top.now)) (clients_data c.in_ok-clients.clients.items) c.in_ok-clients.ensures.1 c.in_ok-clients.ensures.0

pub returns : goal.returns
returns c = (
  c.in_ok-clients.ensures.0,
  subst (λ (all : List ClientData). AreClients (clients_in (get_member (codes "client") (table_view c.args.top.now))) all) (sym c.in_ok-client_book.ensures) c.in_ok-clients.ensures.1,
)
