use Rattle.std.proofs.Common.{◌≡◌, ◌+◌, ◌*◌, ◌≤◌, [], List, drop, codes, ℕ}
use Rattle.std.specs.Prelude.{Option}
use Rattle.std.specs.Vec.Iter.{into_iter_items}
use Rattle.farm_text.specs.Document.{Document, items_of}
use Rattle.farm_text.specs.Doc.{document, documents, entries_of}
use Rattle.farm_text.proofs.DocLemmas.{members_in}
use Rattle.jsone_eval.specs.Scopes.{scopes_of}
use Rattle.jsone_values.specs.Weights.{weight, items_weight, members_weight}
use Rattle.jsone_render.specs.Answers.{names_in, pairs_of, texts_in}
use Rattle.jsone_render.specs.Bindings.{EachRenders, TurnsReduce, ReducedOver}
use Rattle.jsone_render.specs.Conditions.{AllTaken}
use Rattle.jsone_render.specs.Outcomes.{Outcome}
use Rattle.jsone_render.specs.Templates.{ItemsRender, ValuesRender, MemberRenders, BranchRenders}
use Rattle.jsone_render.proofs.renderer.Renderer.+render.Given as goal

abbrev pub decreases-value : goal.decreases-value
decreases-value l = 16 * weight (document l.template.now)

abbrev pub decreases-items : goal.decreases-items
decreases-items l = 16 * items_weight (items_of (documents l.items.now.items)) + 1

abbrev pub decreases-values : goal.decreases-values
decreases-values l = 16 * members_weight (members_in l.members.now.entries) + 1

abbrev pub decreases-operand : goal.decreases-operand
decreases-operand l = 16 * members_weight (members_in l.members.now.entries) + 1

abbrev pub decreases-branch : goal.decreases-branch
decreases-branch l = 16 * members_weight (members_in l.members.now.entries) + 2

abbrev pub decreases-switch : goal.decreases-switch
decreases-switch l = 16 * members_weight (members_in l.members.now.entries) + 3

abbrev pub decreases-matches : goal.decreases-matches
decreases-matches l = 16 * members_weight (members_in l.members.now.entries) + 3

abbrev pub decreases-bind_in : goal.decreases-bind_in
decreases-bind_in l = 16 * members_weight (members_in l.members.now.entries) + 2

abbrev pub decreases-from_now : goal.decreases-from_now
decreases-from_now l = 16 * members_weight (members_in l.members.now.entries) + 2

abbrev pub decreases-each : goal.decreases-each
decreases-each l = 16 * members_weight (members_in l.members.now.entries) + 2

abbrev pub decreases-reduced : goal.decreases-reduced
decreases-reduced l = 16 * members_weight (members_in l.members.now.entries) + 2

abbrev pub decreases-mapped : goal.decreases-mapped
decreases-mapped l = 16 * members_weight (members_in l.members.now.entries) + 3

abbrev pub decreases-over : goal.decreases-over
decreases-over l = 16 * members_weight (members_in l.members.now.entries) + 4

abbrev pub decreases-alone : goal.decreases-alone
decreases-alone l = 16 * members_weight (members_in l.members.now.entries) + 4

abbrev pub decreases-map : goal.decreases-map
decreases-map l = 16 * members_weight (members_in l.members.now.entries) + 5

-- what is left comes to what the whole does
abbrev pub invariant-items-loop-index : goal.invariant-items-loop-index
invariant-items-loop-index l = record {
  leads : (o : Outcome (List Document)) → ItemsRender l.index (documents l.done.items) (items_of (documents (drop l.index l.items.items))) (scopes_of l.self.context) l.self.cost.spent o
      → ItemsRender 0 [] (items_of (documents l.items.items)) (scopes_of l.initial.self.context) l.initial.self.cost.spent o;
  same : scopes_of l.self.context ≡ scopes_of l.initial.self.context;
}

abbrev pub invariant-values-loop-key : goal.invariant-values-loop-key
invariant-values-loop-key l = record {
  leads : (o : Outcome (List (List ℕ × Document))) → ValuesRender (entries_of l.done.items) (members_in l.key-iterator) (scopes_of l.self.context) l.self.cost.spent o
      → ValuesRender [] (members_in l.members.entries) (scopes_of l.initial.self.context) l.initial.self.cost.spent o;
  same : scopes_of l.self.context ≡ scopes_of l.initial.self.context;
  within : members_weight (members_in l.key-iterator) ≤ members_weight (members_in l.members.entries);
}

abbrev pub invariant-matches-loop-key : goal.invariant-matches-loop-key
invariant-matches-loop-key l = record {
  leads : (o : Outcome (Option Document)) → AllTaken (λ inner. BranchRenders (codes "$match") inner (members_in l.members.entries)) (documents l.done.items) (texts_in (into_iter_items l.key-iterator)) (scopes_of l.self.context) l.self.cost.spent o
      → AllTaken (λ inner. BranchRenders (codes "$match") inner (members_in l.members.entries)) [] (texts_in (into_iter_items l.initial.key-iterator)) (scopes_of l.initial.self.context) l.initial.self.cost.spent o;
  same : scopes_of l.self.context ≡ scopes_of l.initial.self.context;
}

abbrev pub invariant-each-loop-item : goal.invariant-each-loop-item
invariant-each-loop-item l = record {
  leads : (o : Outcome (List Document)) → EachRenders (MemberRenders l.key (members_in l.members.entries)) (names_in l.names) (documents l.done.items) (pairs_of (into_iter_items l.item-iterator)) (scopes_of l.self.context) l.self.cost.spent o
      → EachRenders (MemberRenders l.key (members_in l.members.entries)) (names_in l.names) [] (pairs_of l.fn.turns.items) (scopes_of l.initial.self.context) l.initial.self.cost.spent o;
  same : scopes_of l.self.context ≡ scopes_of l.initial.self.context;
}

abbrev pub invariant-reduced-loop-item : goal.invariant-reduced-loop-item
invariant-reduced-loop-item l = record {
  leads : (o : Outcome (Option Document)) → TurnsReduce (MemberRenders l.key (members_in l.members.entries)) (names_in l.names) (document l.before) (pairs_of (into_iter_items l.item-iterator)) (scopes_of l.self.context) l.self.cost.spent o
      → ReducedOver (MemberRenders l.key (members_in l.members.entries)) (names_in l.names) (document l.fn.initial) (document l.fn.value) (scopes_of l.initial.self.context) l.initial.self.cost.spent o;
  same : scopes_of l.self.context ≡ scopes_of l.initial.self.context;
}
