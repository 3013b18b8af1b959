use Rattle.std.proofs.Common.{◌≡◌, ◌↔◌, map}
use Rattle.std.specs.Slice.Iter.{iter_rest}
use Rattle.farm_text.specs.Document.{members_of}
use Rattle.farm_text.specs.Doc.{entries_of}
use Rattle.api_routes.specs.Said.{wanted_of}
use Rattle.api_routes.proofs.requests.has_members.Given as goal

abbrev pub invariant-loop-key : goal.invariant-loop-key
invariant-loop-key l =
    (members_of (entries_of l.members.entries) ≡ members_of (map (λ w. (w.0.now, wanted_of w.1)) l.wanted))
    ↔ (members_of (entries_of l.key-iterator) ≡ members_of (map (λ w. (w.0.now, wanted_of w.1)) (iter_rest l.others)))
