-- Which words are read as `render`.
use Rattle.std.proofs.Common.{◌≡◌, ◌∙◌, false, refl, sym, ap, subst, arith, inl, inr, List, [], ◌∷◌, Some, None, codes, length}
use Rattle.std.specs.Prelude.{◌==◌, ◌||◌, IsUtf8, drop, encode_utf8}
use Rattle.std.specs.List.{All}
use Rattle.std.specs.Str.{bytes_eq}
use Rattle.clap.specs.Words.{Kinds, Shape, Text, built}
use Rattle.clap.specs.Faults.{bundle_step_fault, entered_fault, flags_fault, level_fault, word_fault}
use Rattle.clap.specs.Lexer.{name_and_value}
use Rattle.clap.specs.Simple.{built_leaf, inherited}
use Rattle.clap.specs.Walk.{idle, is_empty, nothing_held, walk_from}
use Rattle.clap.proofs.OnLiterals.{clap_on_literals}
use Rattle.clap.specs.declared.error.ErrorKind.TheVariants.{UnknownArgument}
use Rattle.command_line.proofs.FaultLemmas.{first_fails, held, level_fails, long_flag, none_some, short_flag}
use Rattle.command_line.proofs.FlagLemmas.{IsFlag, value_cases, word_kind}
use Rattle.command_line.proofs.LawLemmas.{fails_below, no_reading, render_stops}
use Rattle.command_line.specs.Options.{EndsOptions, IsValue}
use Rattle.command_line.specs.Words.{farm_app, reading, render_app}
use Rattle.command_line.specs.declared.command.Command.{Command}
use Rattle.command_line.specs.declared.command.Command.TheVariants.{Render}

-- ---- the words after its name

abbrev leaf : Shape
leaf = built_leaf (inherited farm_app.top render_app.top)

abbrev faults : List Text → Kinds
faults words = level_fault leaf [] nothing_held words false []

value_fails : (f : Text) (more : List Text) → IsValue f → faults (f ∷ more) ≡ UnknownArgument ∷ []
unfolding clap_on_literals
value_fails f more v = value_cases (λ a. faults (a ∷ more) ≡ UnknownArgument ∷ []) refl refl (λ x xs e. simp e) f v

dashes_fail : (u : Text) (more : List Text) → faults (codes "--" ∷ u ∷ more) ≡ UnknownArgument ∷ []
unfolding clap_on_literals
dashes_fail u more = refl

flag_word : (w : Text) → IsFlag w → is_empty (word_fault leaf [] false idle w (held None)) ≡ false
unfolding clap_on_literals
flag_word w (inl p) =
    let met = name_and_value (p.0 ∷ p.1) in
    subst (λ a. is_empty (word_fault leaf [] false idle a (held None)) ≡ false) (sym p.2)
    (long_flag leaf.rules (bytes_eq (codes "help") met.0 || false) met.1 (held None))
flag_word w (inr p) =
    let flags : Text = p.0 ∷ p.1 in
    let next = flags_fault leaf.rules false (length p.1) in
    let rest : Text = drop (length (encode_utf8 p.2)) flags in
    subst (λ a. is_empty (word_fault leaf [] false idle a (held None)) ≡ false) (sym p.3) (simp p.4
    (subst (λ o. is_empty (bundle_step_fault leaf.rules false o flags 0 (held None) next) ≡ false) (sym p.5)
    (short_flag leaf.rules (104 == p.2 || false) rest (held None) (next rest 0))))

flag_fails : (w : Text) (more : List Text) → IsFlag w → is_empty (faults (w ∷ more)) ≡ false
flag_fails w more flag = level_fails leaf [] (w ∷ more) false [] (first_fails leaf [] (walk_from nothing_held) w more refl (flag_word w flag))

-- ---- both ways

none_read : (rest : List Text) → is_empty (faults rest) ≡ false → reading (codes "render" ∷ rest) ≡ None
unfolding clap_on_literals
none_read rest bad =
    no_reading (codes "render" ∷ rest) (fails_below farm_app (codes "render" ∷ rest) (ap is_empty (ap (entered_fault (built farm_app)) (render_stops rest)) ∙ bad))

unread : (rest : List Text) (command : Command) → is_empty (faults rest) ≡ false → reading (codes "render" ∷ rest) ≡ Some command → EndsOptions rest
unread rest command bad read = absurd (none_some command (sym (none_read rest bad) ∙ read))

dashes_end : (w : Text) (more : List Text) (command : Command) → w ≡ codes "--" → reading (codes "render" ∷ codes "--" ∷ more) ≡ Some command → EndsOptions (w ∷ more)
dashes_end w [] command is read = inr (ap (λ a. a ∷ []) is)
dashes_end w (u ∷ more) command is read = absurd (none_some command (sym (none_read (codes "--" ∷ u ∷ more) (ap is_empty (dashes_fail u more))) ∙ read))

pub render_ends : (rest : List Text) (command : Command) → All IsUtf8 rest → reading (codes "render" ∷ rest) ≡ Some command → EndsOptions rest
render_ends [] command utf8 read = inl refl
render_ends (w ∷ more) command utf8 read = elim (word_kind w (utf8 0 [] (omega arith))) [
  | inl v ↦ unread (w ∷ more) command (ap is_empty (value_fails w more v)) read
  | inr (inl dashes) ↦ dashes_end w more command dashes (subst (λ a. reading (codes "render" ∷ a ∷ more) ≡ Some command) dashes read)
  | inr (inr flag) ↦ unread (w ∷ more) command (flag_fails w more flag) read
]

alone : reading (codes "render" ∷ []) ≡ Some Render
unfolding clap_on_literals
alone = refl

before_dashes : reading (codes "render" ∷ codes "--" ∷ []) ≡ Some Render
unfolding clap_on_literals
before_dashes = refl

pub render_read : (rest : List Text) → EndsOptions rest → reading (codes "render" ∷ rest) ≡ Some Render
render_read rest (inl e) = subst (λ (words : List Text). reading (codes "render" ∷ words) ≡ Some Render) (sym e) alone
render_read rest (inr e) = subst (λ (words : List Text). reading (codes "render" ∷ words) ≡ Some Render) (sym e) before_dashes
