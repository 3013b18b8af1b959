use Rattle.std.proofs.Common.{◌≡◌, ◌↔◌, map}
use Rattle.std.specs.Slice.Iter.{iter_rest}
use Rattle.farm_text.specs.Document.{members_of, text}
use Rattle.farm_text.specs.Doc.{entries_of}
use Rattle.task_defs.proofs.labels.has_texts.Given as goal

abbrev pub invariant-loop-key : goal.invariant-loop-key
invariant-loop-key l =
    (members_of (entries_of l.members.entries) ≡ members_of (map (λ t. (t.0.now, text t.1.now)) l.texts))
    ↔ (members_of (entries_of l.key-iterator) ≡ members_of (map (λ t. (t.0.now, text t.1.now)) (iter_rest l.others)))
