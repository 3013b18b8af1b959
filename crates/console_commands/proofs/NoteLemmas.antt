-- What notes are told.
use Rattle.std.proofs.Common.{ℕ, List, [], All, inl, inr, refl, subst, sym}
use Rattle.std.proofs.lemmas.List.Elements.{All-push, All-weaker}
use Rattle.scope_sets.specs.Scopes.{IsPrintable}
use Rattle.plain_text.specs.Plain.{IsPlain}
use Rattle.console_commands.specs.Notes.{IsLineOf, IsOneLine}
use Rattle.console_commands.specs.Status.{front_of, line_of}
use Rattle.console_commands.specs.declared.status.Status.{Status}
use Rattle.console_commands.specs.declared.status.Status.TheVariants.{Done, Usage, FarmFile, Input, Opening, Disk, Door, Read, Write, NoMemory, Wire, Damaged}

-- a line of printable words alone is plain
All-plain-line : (line : List ℕ) → IsOneLine [] line → All IsPlain line
All-plain-line line one = subst (All IsPlain) (sym one.line_is) (All-push IsPlain one.words 10 (All-weaker IsPrintable IsPlain (λ b is. inl is) one.words one.printable) (inr refl))

-- a line that begins as its status has it may be told
pub IsLineOf-one : (status : Status) (line : List ℕ) → IsOneLine (front_of status) line → IsLineOf status line
IsLineOf-one Done line one = inr one
IsLineOf-one Usage line one = inr (All-plain-line line one)
IsLineOf-one FarmFile line one = inr one
IsLineOf-one Input line one = inr one
IsLineOf-one Opening line one = inr one
IsLineOf-one Disk line one = inr one
IsLineOf-one Read line one = inr one
IsLineOf-one Write line one = inr one
IsLineOf-one NoMemory line one = inr one
IsLineOf-one Wire line one = inr one
IsLineOf-one Door line one = inr one
IsLineOf-one Damaged line one = inr one

-- the line of a status may be told
pub IsLineOf-own : (status : Status) → IsLineOf status (line_of status)
IsLineOf-own Done = inl refl
IsLineOf-own Usage = inl refl
IsLineOf-own FarmFile = inl refl
IsLineOf-own Input = inl refl
IsLineOf-own Opening = inl refl
IsLineOf-own Disk = inl refl
IsLineOf-own Read = inl refl
IsLineOf-own Write = inl refl
IsLineOf-own NoMemory = inl refl
IsLineOf-own Wire = inl refl
IsLineOf-own Door = inl refl
IsLineOf-own Damaged = inl refl
