-- What the values of `bulk` ask for.
use Rattle.std.proofs.Common.{◌≡◌, ◌∙◌, ℕ, Bool, true, false, cond, refl, sym, ap, ap₂, List, Some, None, codes}
use Rattle.std.specs.Str.Parse.{digits_value}
use Rattle.std.proofs.lemmas.Bool.{and_left, and_right, and_from}
use Rattle.clap.specs.Words.{Row}
use Rattle.command_line.specs.Load.{load_at, load_fields, load_in}
use Rattle.command_line.specs.Signing.{are_formed, value_in}
use Rattle.command_line.specs.Values.{is_number}

unread : (rows : List Row) → are_formed load_fields rows ≡ false → load_in rows ≡ None
unread rows off = ap (λ (b : Bool). cond b (Some (load_at rows)) None) off

pub off_seed : (rows : List Row) (seed : List ℕ) → seed ≡ value_in rows (codes "seed") → is_number 0 9223372036854775807 seed ≡ false → load_in rows ≡ None
off_seed rows seed is off = unread rows (and_left _ _ (sym (ap (is_number 0 9223372036854775807) is) ∙ off))

pub off_tasks : (rows : List Row) (tasks : List ℕ) → tasks ≡ value_in rows (codes "tasks") → is_number 0 100000 tasks ≡ false → load_in rows ≡ None
off_tasks rows tasks is off =
    unread rows (and_right (is_number 0 9223372036854775807 (value_in rows (codes "seed"))) _ (and_left _ _ (sym (ap (is_number 0 100000) is) ∙ off)))

pub both_formed : (rows : List Row) (seed tasks : List ℕ) (s t : ℕ) → seed ≡ value_in rows (codes "seed") → tasks ≡ value_in rows (codes "tasks")
    → is_number 0 9223372036854775807 seed ≡ true → s ≡ digits_value 10 seed → is_number 0 100000 tasks ≡ true → t ≡ digits_value 10 tasks
    → load_in rows ≡ Some (record { seed = s; tasks = t })
both_formed rows seed tasks s t is_seed is_tasks first s_is second t_is =
    let formed : are_formed load_fields rows ≡ true =
    and_from _ _ (sym (ap (is_number 0 9223372036854775807) is_seed) ∙ first) (and_from _ _ (sym (ap (is_number 0 100000) is_tasks) ∙ second) refl) in
    ap (λ (b : Bool). cond b (Some (load_at rows)) None) formed
    ∙ ap₂ (λ (x y : ℕ). Some (record { seed = x; tasks = y })) (sym (s_is ∙ ap (digits_value 10) is_seed)) (sym (t_is ∙ ap (digits_value 10) is_tasks))
