use Rattle.std.proofs.Common.{◌≡◌, ◌∷◌, ◌++◌, [], ℕ, List, string_bytes, ap, ◌∙◌, arith}
use Rattle.std.proofs.lemmas.Grind.{common_steps}
use Rattle.farm_text.specs.Document.{Document, text}
use Rattle.farm_text.specs.Doc.{document}
use Rattle.farm_text.proofs.DocLemmas.{members_in}
use Rattle.jsone_render.specs.Answers.{names_in, pairs_of}
use Rattle.jsone_render.specs.Bindings.{turn_value, turns_of}
use Rattle.jsone_render.proofs.KindLemmas.{one_more}
use Rattle.jsone_render.proofs.turns.turns_of.Goals as goal

pub loop-key-preserved : goal.loop-key-preserved
loop-key-preserved c =
    let l = c.loop-key in
    let names = names_in c.args.names in
    let next : l.key-iterator ≡ (c.in-Some.key, c.in-Some.value) ∷ c.next.new.self = grind (arith, common_steps) in
    let turn : List ℕ → List (Document × Document) = λ k. (turn_value names k (document c.in-Some.value), text k) ∷ [] in
    let left = members_in c.next.new.self in
    one_more (pairs_of l.turns.items) (pairs_of c.push_turn.new.turns.items) (turn (string_bytes c.in-Some.key)) (turns_of names left) (turns_of names (members_in l.key-iterator)) (turns_of names (members_in c.args.members.entries))
    (ap (λ es. turns_of names (members_in es)) next) (c.in_ok-push_turn.ensures ∙ ap (λ (k : List ℕ). pairs_of l.turns.items ++ turn k) c.as_str.ensures.value) l.invariant
