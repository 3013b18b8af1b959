-- The bodies that stand in a file at some places.
use Rattle.std.specs.Prelude.{ℕ, ◌+◌, List, map, take, drop}
use Rattle.disk_journal.specs.declared.spans.Span.{Span}

-- the body of a span: it stands behind its gate and four bytes
abbrev pub body_at : List ℕ → Span → List ℕ
body_at file span = take span.size (drop (span.gate + 5) file)

-- the bodies of these spans, and each with its gate's place
abbrev pub bodies_in : List ℕ → List Span → List (List ℕ)
bodies_in file spans = map (body_at file) spans

abbrev pub places_in : List ℕ → List Span → List (ℕ × List ℕ)
places_in file spans = map (λ span. (span.gate, body_at file span)) spans
