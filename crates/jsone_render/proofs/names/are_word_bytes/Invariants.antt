use Rattle.std.proofs.Common.{◌≡◌, ◌&&◌, drop}
use Rattle.std.specs.List.{list_all}
use Rattle.jsone_expr.specs.Tokens.{is_word_byte}
use Rattle.jsone_render.proofs.names.are_word_bytes.Given as goal

-- those that are left are judged with those before them
abbrev pub invariant-loop-byte : goal.invariant-loop-byte
invariant-loop-byte l = (l.all && list_all is_word_byte (drop l.byte-index l.bytes)) ≡ list_all is_word_byte l.bytes
