-- The priorities down to one, their names, and that a lower one asks less.
use Rattle.std.proofs.Common.{◌≡◌, ℕ, ◌+◌, ◌≤◌, true, inl, inr, List, [], ◌∷◌, ◌++◌, take, drop, map, take-append-drop, refl, sym, ap, ◌∙◌, subst, All, codes, arith}
use Rattle.std.proofs.lemmas.Bool.{and_parts, and_from, or_cases, or_left, or_right, false≢true}
use Rattle.std.proofs.lemmas.List.{map-append, append_assoc, take-take}
use Rattle.std.proofs.lemmas.List.Elements.{All-append, All-cons}
use Rattle.scope_sets.specs.Scopes.{IsPrintable}
use Rattle.scope_sets.specs.Expressions.{Expression, one, all_of, any_of, members_of, view, holds, all_hold, some_holds}
use Rattle.scope_sets.specs.declared.expressions.Expr.{Expr}
use Rattle.task_types.specs.Forms.{queue_name}
use Rattle.task_types.specs.Choices.{priority_name, priorities}
use Rattle.task_types.specs.declared.choices.Priority.{Priority}
use Rattle.task_types.specs.declared.choices.Priority.TheVariants.{Highest, VeryHigh, High, Medium, Low, VeryLow, Lowest}
use Rattle.task_types.specs.declared.names.TaskQueue.{TaskQueue}
use Rattle.task_types.specs.declared.task_def.TaskDef.{TaskDef}
use Rattle.call_rules.specs.Policy.{rank, from_highest, create_scope, create_policy}
use Rattle.call_rules.proofs.PolicyLemmas.{printable}

pub down_to : (p : Priority) → take (rank p + 1) priorities ≡ from_highest p
down_to Highest = refl
down_to VeryHigh = refl
down_to High = refl
down_to Medium = refl
down_to Low = refl
down_to VeryLow = refl
down_to Lowest = refl

pub name_printable : (p : Priority) → All IsPrintable (priority_name p)
name_printable Highest = printable (priority_name Highest) refl
name_printable VeryHigh = printable (priority_name VeryHigh) refl
name_printable High = printable (priority_name High) refl
name_printable Medium = printable (priority_name Medium) refl
name_printable Low = printable (priority_name Low) refl
name_printable VeryLow = printable (priority_name VeryLow) refl
name_printable Lowest = printable (priority_name Lowest) refl

-- the text that five pieces make
pub five_pieces : (n p w s0 s1 s2 s3 s4 : List ℕ) → s0 ≡ n → s1 ≡ s0 ++ 58 ∷ [] → s2 ≡ s1 ++ p → s3 ≡ s2 ++ 47 ∷ [] → s4 ≡ s3 ++ w → s4 ≡ n ++ 58 ∷ queue_name p w
five_pieces n p w s0 s1 s2 s3 s4 a b c d e =
    let three : s2 ≡ n ++ 58 ∷ p = c ∙ ap (λ t. t ++ p) (b ∙ ap (λ t. t ++ 58 ∷ []) a) ∙ append_assoc n (58 ∷ []) p in
    e ∙ ap (λ t. t ++ w) (d ∙ ap (λ t. t ++ 47 ∷ []) three) ∙ append_assoc (n ++ 58 ∷ p) (47 ∷ []) w ∙ append_assoc n (58 ∷ p) (47 ∷ w)

pub queue_printable : (n p w : List ℕ) → All IsPrintable n → All IsPrintable p → All IsPrintable w → All IsPrintable (n ++ 58 ∷ queue_name p w)
queue_printable n p w first second third =
    All-append IsPrintable n (58 ∷ queue_name p w) first
    (All-cons IsPrintable 58 (queue_name p w) (omega arith, omega arith)
    (All-append IsPrintable p (47 ∷ w) second (All-cons IsPrintable 47 w (omega arith, omega arith) third)))

pub three_more : (old first second third : List Expr) (a b c : Expr) (front : List Expression) (x y z : Expression) → map view old ≡ front
    → first ≡ old ++ a ∷ [] → second ≡ first ++ b ∷ [] → third ≡ second ++ c ∷ [] → view a ≡ x → view b ≡ y → view c ≡ z → map view third ≡ front ++ x ∷ y ∷ z ∷ []
three_more old first second third a b c front x y z seen p q r ea eb ec =
    let one_more : (xs : List Expr) (e : Expr) (u : Expression) → view e ≡ u → map view (xs ++ e ∷ []) ≡ map view xs ++ u ∷ [] =
    λ xs e u is. map-append view xs (e ∷ []) ∙ ap (λ v. map view xs ++ v ∷ []) is in
    let two : map view second ≡ front ++ x ∷ y ∷ [] =
    ap (map view) q ∙ one_more first b y eb ∙ ap (λ vs. vs ++ y ∷ []) (ap (map view) p ∙ one_more old a x ea ∙ ap (λ vs. vs ++ x ∷ []) seen) ∙ append_assoc front (x ∷ []) (y ∷ []) in
    ap (map view) r ∙ one_more second c z ec ∙ ap (λ vs. vs ++ z ∷ []) two ∙ append_assoc front (x ∷ y ∷ []) (z ∷ [])

-- ---- a lower priority asks less

lower_list : (p lower : Priority) → rank p ≤ rank lower → from_highest lower ≡ from_highest p ++ drop (rank p + 1) (take (rank lower + 1) priorities)
lower_list p lower le =
    sym (down_to lower) ∙ sym (take-append-drop (rank p + 1) (take (rank lower + 1) priorities))
    ∙ ap (λ (ps : List Priority). ps ++ drop (rank p + 1) (take (rank lower + 1) priorities)) (take-take (rank p + 1) (rank lower + 1) priorities (omega (arith, le)) ∙ down_to p)

module _ (set : List (List ℕ)) where
  some_more : (xs ys : List Expression) → some_holds set (members_of xs) ≡ true → some_holds set (members_of (xs ++ ys)) ≡ true
  some_more [] ys held = absurd (false≢true held)
  some_more (x ∷ xs) ys held =
      elim (or_cases (holds set x) (some_holds set (members_of xs)) held) [
        | inl here ↦ or_left (holds set x) (some_holds set (members_of (xs ++ ys))) here
        | inr later ↦ or_right (holds set x) (some_holds set (members_of (xs ++ ys))) (some_more xs ys later)
      ]

  -- the last member may be exchanged for one that holds where it does
  last_less : (xs : List Expression) (e f : Expression) → (holds set e ≡ true → holds set f ≡ true) → all_hold set (members_of (xs ++ e ∷ [])) ≡ true → all_hold set (members_of (xs ++ f ∷ [])) ≡ true
  last_less [] e f less held = let parts = and_parts (holds set e) true held in and_from (holds set f) true (less parts.0) parts.1
  last_less (x ∷ xs) e f less held = let parts = and_parts (holds set x) (all_hold set (members_of (xs ++ e ∷ []))) held in and_from (holds set x) (all_hold set (members_of (xs ++ f ∷ []))) parts.0 (last_less xs e f less parts.1)

  any_less : (queue : TaskQueue) (p lower : Priority) → rank p ≤ rank lower
      → some_holds set (members_of (map (λ q. one (create_scope queue q)) (from_highest p))) ≡ true → some_holds set (members_of (map (λ q. one (create_scope queue q)) (from_highest lower))) ≡ true
  any_less queue p lower le held =
      let f : Priority → Expression = λ q. one (create_scope queue q) in
      let more = drop (rank p + 1) (take (rank lower + 1) priorities) in
      subst (λ (es : List Expression). some_holds set (members_of es) ≡ true) (sym (ap (map f) (lower_list p lower le) ∙ map-append f (from_highest p) more))
      (some_more (map f (from_highest p)) (map f more) held)

  -- the members of a creation's policy, up to the last
  fixed : TaskDef → List Expression
  fixed def =
      map one def.scopes ++ (map (λ route. one (codes "queue:route:" ++ route)) def.routes
      ++ one (codes "queue:create-task:project:" ++ def.project_id) ∷ one (codes "queue:scheduler-id:" ++ def.scheduler_id) ∷ [])

  least_of : TaskDef → Expression
  least_of def = any_of (members_of (map (λ q. one (create_scope def.queue q)) (from_highest def.priority)))

  as_fixed : (def : TaskDef) → create_policy def ≡ all_of (members_of (fixed def ++ least_of def ∷ []))
  unfolding fixed least_of
  as_fixed def =
      let routes : List Expression = map (λ route. one (codes "queue:route:" ++ route)) def.routes in
      let pair : List Expression = one (codes "queue:create-task:project:" ++ def.project_id) ∷ one (codes "queue:scheduler-id:" ++ def.scheduler_id) ∷ [] in
      sym (ap (λ (es : List Expression). all_of (members_of es))
      (append_assoc (map one def.scopes) (routes ++ pair) (least_of def ∷ []) ∙ ap (λ (es : List Expression). map one def.scopes ++ es) (append_assoc routes pair (least_of def ∷ []))))

  pub lower_asks_less : (def : TaskDef) (lower : Priority) → rank def.priority ≤ rank lower → holds set (create_policy def) ≡ true → holds set (create_policy (record def { priority = lower })) ≡ true
  unfolding fixed least_of
  lower_asks_less def lower le held =
      let other : TaskDef = record def { priority = lower } in
      let all : all_hold set (members_of (fixed def ++ least_of def ∷ [])) ≡ true = subst (λ (e : Expression). holds set e ≡ true) (as_fixed def) held in
      subst (λ (e : Expression). holds set e ≡ true) (sym (as_fixed other))
      (last_less (fixed def) (least_of def) (least_of other) (any_less def.queue def.priority lower le) all)
