-- When words have a fault.
use Rattle.std.proofs.Common.{◌≡◌, Bool, false, true, cond, arith, refl, List, [], ◌∷◌, Option, Some, None}
use Rattle.std.proofs.lemmas.Bool.{ne_eqb}
use Rattle.clap.specs.Words.{Kinds, Rule, Shape, Text}
use Rattle.clap.specs.Faults.{level_fault, long_fault, react_fault, settle_fault, short_fault, turn_fault, use_fault, walk_fault, word_fault}
use Rattle.clap.specs.Kinds.{or_else}
use Rattle.clap.specs.Simple.{filled, help_rule}
use Rattle.clap.specs.Walk.{Held, Names, Walk, is_empty, nothing_held, reacted, settled, walk_from, walked}
use Rattle.command_line.specs.declared.command.Command.{Command}

pub none_some : (command : Command) → None ≡ Some command → ⊥
none_some command e = cc

pub or_left : (a b : Kinds) → is_empty a ≡ false → is_empty (or_else a b) ≡ false
or_left [] b e = cc
or_left (k ∷ ks) b e = e

pub or_right : (a b : Kinds) → is_empty b ≡ false → is_empty (or_else a b) ≡ false
or_right [] b e = e
or_right (k ∷ ks) b e = is_some_kind k ks
  where
    is_some_kind : (k : _) (ks : Kinds) → is_empty (k ∷ ks) ≡ false
    is_some_kind k ks = ne_eqb _ _ (λ same. omega arith)

abbrev pub help : Rule
help = filled help_rule

pub long_flag : (c : List Rule) (b : Bool) (v : Option Text) (h : Held) → is_empty (long_fault c false (cond b (Some help) None) v h) ≡ false
long_flag c true (Some v) h = refl
long_flag c true None h = or_right (settle_fault c false h) (use_fault false help [] (settled c h).rows) refl
long_flag c false v h = refl

pub short_flag : (c : List Rule) (b : Bool) (rest : Text) (h : Held) (next : Held → Kinds) → is_empty (short_fault c false (cond b (Some help) None) rest h next) ≡ false
short_flag c true rest h next =
    or_left (react_fault c false help [] h) (next (reacted c help [] h)) (or_right (settle_fault c false h) (use_fault false help [] (settled c h).rows) refl)
short_flag c false rest h next = refl

abbrev pub held : Option (Text × List Text) → Held
held pending = record { rows = []; pending = pending; skip = 0 }

-- ---- where a word fails, the words fail

pub level_fails : (s : Shape) (names : Names) (words : List Text) (b : Bool) (below : Kinds) → is_empty (walk_fault s names (walk_from nothing_held) words) ≡ false
    → is_empty (level_fault s names nothing_held words b below) ≡ false
level_fails s names words b below fails = or_left (walk_fault s names (walk_from nothing_held) words) _ fails

pub first_fails : (s : Shape) (names : Names) (w : Walk) (word : Text) (rest : List Text) → w.stopped ≡ None → is_empty (word_fault s names w.is_trailing w.waiting word w.held) ≡ false
    → is_empty (walk_fault s names w (word ∷ rest)) ≡ false
unfolding walk_fault
first_fails s names w word rest goes fails =
    let turn : is_empty (turn_fault s names w word) ≡ false = simp goes (or_left (word_fault s names w.is_trailing w.waiting word w.held) _ fails) in
    or_left (turn_fault s names w word) (walk_fault s names (walked s.rules names w word) rest) turn

pub rest_fails : (s : Shape) (names : Names) (w : Walk) (word : Text) (rest : List Text) → is_empty (walk_fault s names (walked s.rules names w word) rest) ≡ false
    → is_empty (walk_fault s names w (word ∷ rest)) ≡ false
unfolding walk_fault
rest_fails s names w word rest fails = or_right (turn_fault s names w word) (walk_fault s names (walked s.rules names w word) rest) fails
