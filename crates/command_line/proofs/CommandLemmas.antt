-- The words of a command are read from its own words.
use Rattle.std.proofs.Common.{◌≡◌, ◌∙◌, ◌++◌, append-nil, append_assoc, fold, is_some, true, false, cond, refl, sym, ap, List, [], ◌∷◌, Option, Some, None, option_and_then}
use Rattle.clap.specs.Words.{App, Kinds, Row, Rule, Shape, Text, built, fault_of, subcommand_of}
use Rattle.clap.specs.Faults.{check_fault, defaults_fault, entered_fault, level_fault, settle_fault, turn_fault, walk_fault}
use Rattle.clap.specs.Kinds.{or_else}
use Rattle.clap.specs.Simple.{entered, names_of}
use Rattle.clap.specs.Walk.{Held, Names, Walk, finished, idle, is_empty, nothing_held, settled, stop_after, walk_from, walked, walked_from}
use Rattle.clap.proofs.OnLiterals.{clap_on_literals}
use Rattle.command_line.specs.Words.{command_in, farm_app, reading}
use Rattle.command_line.specs.declared.command.Command.{Command}

abbrev pub top : Shape
top = (built farm_app).top

abbrev pub top_names : Names
top_names = names_of (built farm_app)

-- the walk stands still once a subcommand was met
stopped_walk : (c : List Rule) (names : Names) (w : Walk) (name : Text) (before rest : List Text) → w.stopped ≡ Some (name, before)
    → fold (walked c names) w rest ≡ record w { stopped = Some (name, before ++ rest) }
unfolding walked
stopped_walk c names w name before [] e = ap (λ (s : Option (Text × List Text)). record w { stopped = s }) (e ∙ ap (λ (words : List Text). Some (name, words)) (sym (append-nil before)))
stopped_walk c names w name before (word ∷ rest) e =
    let next : walked c names w word ≡ record w { stopped = Some (name, before ++ word ∷ []) } = ap (λ (s : Option (Text × List Text)). walked_from c names s w word) e in
    ap (λ (v : Walk). fold (walked c names) v rest) next
    ∙ (stopped_walk c names (record w { stopped = Some (name, before ++ word ∷ []) }) name (before ++ word ∷ []) rest refl
    ∙ ap (λ (words : List Text). record w { stopped = Some (name, words) }) (append_assoc before (word ∷ []) rest))

-- and finds no fault
stopped_fault : (s : Shape) (names : Names) (w : Walk) (name : Text) (before rest : List Text) → w.stopped ≡ Some (name, before) → walk_fault s names w rest ≡ []
unfolding walk_fault walked
stopped_fault s names w name before [] e = refl
stopped_fault s names w name before (word ∷ rest) e =
    let next : walked s.rules names w word ≡ record w { stopped = Some (name, before ++ word ∷ []) } = ap (λ (o : Option (Text × List Text)). walked_from s.rules names o w word) e in
    let here : turn_fault s names w word ≡ [] = simp e in
    ap (λ (k : Kinds). or_else k (walk_fault s names (walked s.rules names w word) rest)) here
    ∙ (ap (λ (v : Walk). walk_fault s names v rest) next ∙ stopped_fault s names (record w { stopped = Some (name, before ++ word ∷ []) }) name (before ++ word ∷ []) rest refl)

abbrev top_end : Held → Kinds
top_end h = or_else (settle_fault top.rules false h) (or_else (defaults_fault (settled top.rules h).rows top.rules) (check_fault top (finished top.rules h) true))

-- a level whose words end at a subcommand has the faults of that
level_below : (w : Walk) (name : Text) (rest : List Text) (below : Kinds) → w.stopped ≡ Some (name, []) → w.held ≡ nothing_held → turn_fault top top_names (walk_from nothing_held) name ≡ []
    → walked top.rules top_names (walk_from nothing_held) name ≡ w → level_fault top top_names nothing_held (name ∷ rest) true below ≡ or_else below []
unfolding clap_on_literals
level_below w name rest below stops bare none goes =
    let first : walk_fault top top_names (walk_from nothing_held) (name ∷ rest) ≡ [] =
    ap (λ (k : Kinds). or_else k (walk_fault top top_names (walked top.rules top_names (walk_from nothing_held) name) rest)) none
    ∙ (ap (λ (v : Walk). walk_fault top top_names v rest) goes ∙ stopped_fault top top_names w name [] rest stops) in
    let end : (fold (walked top.rules top_names) (walk_from nothing_held) (name ∷ rest)).held ≡ nothing_held =
    ap (λ (v : Walk). (fold (walked top.rules top_names) v rest).held) goes ∙ (ap (λ (v : Walk). v.held) (stopped_walk top.rules top_names w name [] rest stops) ∙ bare) in
    ap (λ (k : Kinds). or_else k (or_else below (top_end (fold (walked top.rules top_names) (walk_from nothing_held) (name ∷ rest)).held))) first
    ∙ ap (λ (h : Held). or_else below (top_end h)) end

or_none : (k : Kinds) → or_else k [] ≡ k
or_none [] = refl
or_none (x ∷ xs) = refl

abbrev pub met_at : Text → Walk
met_at name = record { held = nothing_held; waiting = idle; position = 1; is_trailing = false; stopped = Some (name, []) }

-- the words of a command are read from its own words, where those have these faults and these matches
pub command_goes : (name : Text) (rest : List Text) (below : Kinds) (rows : List Row) → stop_after top.rules top_names (name ∷ rest) ≡ Some (name, rest)
    → turn_fault top top_names (walk_from nothing_held) name ≡ [] → walked top.rules top_names (walk_from nothing_held) name ≡ met_at name
    → entered_fault (built farm_app) (Some (name, rest)) ≡ below → entered (built farm_app) (Some (name, rest)) ≡ Some (name, rows)
    → reading (name ∷ rest) ≡ cond (is_empty below) (command_in (name, rows)) None
command_goes name rest below rows stops none goes fails met =
    let app : App = built farm_app in
    let words : List Text = name ∷ rest in
    let fault : fault_of farm_app words ≡ below =
    ap (λ (stop : Option (Text × List Text)). level_fault top top_names nothing_held words (is_some (entered app stop)) (entered_fault app stop)) stops
    ∙ (ap (λ (o : Option (Text × List Row)). level_fault top top_names nothing_held words (is_some o) (entered_fault app (Some (name, rest)))) met
    ∙ (level_below (met_at name) name rest (entered_fault app (Some (name, rest))) refl refl none goes ∙ (or_none _ ∙ fails))) in
    let read : option_and_then command_in (subcommand_of farm_app words) ≡ command_in (name, rows) =
    ap (λ (stop : Option (Text × List Text)). option_and_then command_in (entered app stop)) stops ∙ ap (option_and_then command_in) met in
    ap (λ (k : Kinds). cond (is_empty k) (option_and_then command_in (subcommand_of farm_app words)) None) fault
    ∙ ap (λ (o : Option Command). cond (is_empty below) o None) read
