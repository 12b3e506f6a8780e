-- The refusals of reader and writer: each one's number, and the byte of the message that it is about.
use Rattle.std.specs.Prelude.{ℕ}
use Rattle.wire.specs.declared.fault.ReadFault.{ReadFault}
use Rattle.wire.specs.declared.fault.ReadFault.TheVariants.{Truncated, LengthBelowTwo, WrongVersion, WrongKind, WrongLength}
use Rattle.wire.specs.declared.fault.WriteFault.{WriteFault}
use Rattle.wire.specs.declared.fault.WriteFault.TheVariants.{SpaceTooShort}

-- The number of a reader's refusal.
abbrev pub read_number : ReadFault → ℕ
read_number Truncated = 1
read_number LengthBelowTwo = 2
read_number WrongVersion = 3
read_number WrongKind = 4
read_number WrongLength = 5

-- The byte that it is about, counted from the message's first: the version's, the kind's, or the first itself.
abbrev pub read_offset : ReadFault → ℕ
read_offset Truncated = 0
read_offset LengthBelowTwo = 0
read_offset WrongVersion = 2
read_offset WrongKind = 3
read_offset WrongLength = 0

-- The number of the writer's refusal.
abbrev pub write_number : WriteFault → ℕ
write_number SpaceTooShort = 19
