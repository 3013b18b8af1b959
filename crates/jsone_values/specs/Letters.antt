-- What functions of the language give for texts: other letters, and fewer spaces (JSON-e, "Builtins"; ASCII alone is this project's).
use Rattle.std.specs.Prelude.{ℕ, ◌-◌, Bool, ◌||◌, ◌==◌, List, length, map, take, drop, Result, Ok, Err, encode_utf8_all}
use Rattle.std.specs.Char.{to_ascii_lowercase, to_ascii_uppercase}
use Rattle.std.specs.List.{prefix_len, suffix_len}
use Rattle.std.specs.Str.{chars}
use Rattle.farm_text.specs.Document.{Document, text}
use Rattle.jsone_values.specs.declared.faults.Fault.{Fault}
use Rattle.jsone_values.specs.declared.faults.Fault.TheVariants.{WrongKind}

-- a space, a tab, a line feed or a carriage return
abbrev pub is_space : ℕ → Bool
is_space c = (c == 32) || ((c == 9) || ((c == 10) || (c == 13)))

-- `lowercase` and `uppercase`
abbrev pub lowered : Document → Result Document Fault
lowered (text bs) = Ok (text (map to_ascii_lowercase bs))
lowered _ = Err WrongKind

abbrev pub raised : Document → Result Document Fault
raised (text bs) = Ok (text (map to_ascii_uppercase bs))
raised _ = Err WrongKind

-- the characters but for so many at the front and so many at the end
abbrev pub without : ℕ → ℕ → List ℕ → List ℕ
without front end cs = take (length cs - end - front) (drop front cs)

-- `lstrip`, `rstrip` and `strip`
abbrev pub stripped_left : Document → Result Document Fault
stripped_left (text bs) = Ok (text (encode_utf8_all (without (prefix_len is_space (chars bs)) 0 (chars bs))))
stripped_left _ = Err WrongKind

abbrev pub stripped_right : Document → Result Document Fault
stripped_right (text bs) = Ok (text (encode_utf8_all (without 0 (suffix_len is_space (chars bs)) (chars bs))))
stripped_right _ = Err WrongKind

abbrev pub stripped : Document → Result Document Fault
stripped (text bs) = Ok (text (encode_utf8_all (without (prefix_len is_space (chars bs)) (suffix_len is_space (chars bs)) (chars bs))))
stripped _ = Err WrongKind
