use Rattle.farm_files.proofs.clients.client_book.Goals as goal

pub unreachable-requires-in-Err-DuplicateClient : goal.unreachable-requires-in-Err-DuplicateClient
unreachable-requires-in-Err-DuplicateClient c =
    let r = rw c.in-Err-DuplicateClient.field-0-is at c.in-Err-DuplicateClient.ensures in
    c.requires.apart c.in-Err-DuplicateClient.field-0-0 c.in-Err-DuplicateClient.field-0-1 r.1
