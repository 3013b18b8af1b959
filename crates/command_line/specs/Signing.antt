-- `sign`: its options, the forms of their values, and what they ask to be signed.
use Rattle.std.specs.Prelude.{ℕ, Bool, true, false, List, [], ◌∷◌, ◌++◌, fold, codes, Option, Some, None, unwrap_or, if◌then◌else◌}
use Rattle.std.specs.List.{list_all}
use Rattle.std.specs.Str.Parse.{digits_value}
use Rattle.clap.specs.Words.{App, Row, Rule, first_of, new_app, new_rule, with_rule}
use Rattle.clap.specs.Walk.{nonempty}
use Rattle.command_line.specs.Values.{are_all, are_some, has_form, is_digit, is_id_byte, is_letter, is_number, is_printable, is_target_byte, is_token_byte, is_value_byte}
use Rattle.command_line.specs.declared.signing.Signing.{Signing}

-- an option: its name, whether it has to be there, and the form of its value; one that is not there has the empty value
pub record Field : Type 0 where
  pub name : List ℕ
  pub required : Bool
  pub form : List ℕ → Bool

-- an option that has to be there, and one that may be left out
abbrev pub required : List ℕ → (List ℕ → Bool) → Field
required name form = record { name = name; required = true; form = form }

abbrev pub optional : List ℕ → (List ℕ → Bool) → Field
optional name form = record { name = name; required = false; form = form }

-- who signs, and what is asked of which host
abbrev pub request_fields : List Field
request_fields =
    required (codes "id") (has_form 1 128 is_id_byte)
    ∷ required (codes "token") (has_form 22 66 is_token_byte)
    ∷ required (codes "method") (has_form 1 32 is_letter)
    ∷ required (codes "target") (has_form 1 8192 is_target_byte)
    ∷ required (codes "host") (has_form 1 255 is_printable)
    ∷ []

-- the port of that host
abbrev pub port_field : Field
port_field = required (codes "port") (is_number 1 65535)

-- when, by which nonce, and what may go with it
abbrev pub stamp_fields : List Field
stamp_fields =
    required (codes "ts") (has_form 1 12 is_digit)
    ∷ required (codes "nonce") (are_some is_value_byte)
    ∷ optional (codes "ext") (are_all is_value_byte)
    ∷ optional (codes "type") (are_all is_printable)
    ∷ []

-- all options of `sign`
abbrev pub sign_fields : List Field
sign_fields = request_fields ++ port_field ∷ stamp_fields

-- the option `--name` with one value, as clap has it
abbrev pub option_rule : List ℕ → Bool → Rule
option_rule name required = record (new_rule name) { long = Some name; required = required }

-- a command with these options
abbrev pub with_fields : App → List Field → App
with_fields app fields = fold (λ a field. with_rule a (option_rule field.name field.required)) app fields

-- the command `sign`, which takes its options and nothing else
abbrev pub sign_app : App
sign_app = with_fields (new_app (codes "sign")) sign_fields

-- the value of an option, the empty one where it is not there
abbrev pub value_in : List Row → List ℕ → List ℕ
value_in rows name = unwrap_or (first_of name rows) []

-- each value of these options is of its form
abbrev pub are_formed : List Field → List Row → Bool
are_formed fields rows = list_all (λ field. field.form (value_in rows field.name)) fields

-- what the values ask to be signed, at this port; an empty `--ext` is as none
abbrev pub signing_at : List Row → ℕ → Signing
signing_at rows port = record {
  id = value_in rows (codes "id");
  token = value_in rows (codes "token");
  method = value_in rows (codes "method");
  target = value_in rows (codes "target");
  host = value_in rows (codes "host");
  port = port;
  ts = value_in rows (codes "ts");
  nonce = value_in rows (codes "nonce");
  ext = nonempty (value_in rows (codes "ext"));
  content_type = first_of (codes "type") rows;
}

-- what the values ask to be signed, where each is of its form
abbrev pub signing_in : List Row → Option Signing
signing_in rows =
    if are_formed sign_fields rows then Some (signing_at rows (digits_value 10 (value_in rows (codes "port")))) else None
