-- What the values of `sign` ask to be signed.
use Rattle.std.proofs.Common.{◌≡◌, ◌∙◌, ℕ, Bool, true, false, cond, sym, ap, List, ◌∷◌, Option, Some, None, codes}
use Rattle.std.specs.Prelude.{◌&&◌, not}
use Rattle.std.specs.Str.Parse.{digits_value}
use Rattle.std.proofs.lemmas.Bool.{and_left, and_right, not-false, not-true, and_from}
use Rattle.std.proofs.lemmas.List.Folds.{list_all-append}
use Rattle.clap.specs.Words.{Row}
use Rattle.command_line.specs.Refusal.{Refuses}
use Rattle.command_line.specs.Signing.{are_formed, port_field, request_fields, sign_fields, signing_at, signing_in, stamp_fields, value_in}
use Rattle.command_line.specs.Values.{is_number}
use Rattle.command_line.specs.declared.signing.Signing.{Signing}
use Rattle.command_line.specs.declared.reading.WordsFault.{WordsFault}
use Rattle.command_line.specs.declared.reading.WordsFault.TheVariants.{Usage, NoMemory}

-- nothing is read
pub refuses : {X : Type 0} (read : Option X) (fault : WordsFault) → read ≡ None → Refuses read fault
refuses read (Usage text) none = none
refuses read NoMemory none = tt

parts : (rows : List Row) → are_formed sign_fields rows
    ≡ (are_formed request_fields rows && (is_number 1 65535 (value_in rows (codes "port")) && are_formed stamp_fields rows))
parts rows = list_all-append (λ field. field.form (value_in rows field.name)) request_fields (port_field ∷ stamp_fields)

unread : (rows : List Row) → are_formed sign_fields rows ≡ false → signing_in rows ≡ None
unread rows off = ap (λ (b : Bool). cond b (Some (signing_at rows (digits_value 10 (value_in rows (codes "port"))))) None) off

pub off_request : (rows : List Row) → true ≡ not (are_formed request_fields rows) → signing_in rows ≡ None
off_request rows off = unread rows (parts rows ∙ and_left _ _ (not-true _ (sym off)))

pub off_port : (rows : List Row) (port : List ℕ) → port ≡ value_in rows (codes "port") → is_number 1 65535 port ≡ false → signing_in rows ≡ None
off_port rows port is off = unread rows (parts rows ∙ and_right (are_formed request_fields rows) _ (and_left _ _ (sym (ap (is_number 1 65535) is) ∙ off)))

pub off_stamp : (rows : List Row) → true ≡ not (are_formed stamp_fields rows) → signing_in rows ≡ None
off_stamp rows off =
    unread rows (parts rows ∙ and_right (are_formed request_fields rows) _ (and_right (is_number 1 65535 (value_in rows (codes "port"))) _ (not-true _ (sym off))))

pub all_formed : (rows : List Row) (text : List ℕ) (port : ℕ) (signing : Signing) → false ≡ not (are_formed request_fields rows) → text ≡ value_in rows (codes "port")
    → is_number 1 65535 text ≡ true → port ≡ digits_value 10 text → false ≡ not (are_formed stamp_fields rows) → signing ≡ signing_at rows port
    → signing_in rows ≡ Some signing
all_formed rows text port signing request is number value stamp made =
    let formed : are_formed sign_fields rows ≡ true =
    parts rows ∙ and_from _ _ (not-false _ (sym request)) (and_from _ _ (sym (ap (is_number 1 65535) is) ∙ number) (not-false _ (sym stamp))) in
    let same : digits_value 10 (value_in rows (codes "port")) ≡ port = sym (value ∙ ap (digits_value 10) is) in
    ap (λ (b : Bool). cond b (Some (signing_at rows (digits_value 10 (value_in rows (codes "port"))))) None) formed
    ∙ ap (λ (p : ℕ). Some (signing_at rows p)) same ∙ ap (λ (s : Signing). Some s) (sym made)
