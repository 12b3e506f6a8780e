-- What the reader does under a session.
use Rattle.std.specs.Prelude.{◌≡◌, ℕ, ◌+◌, Ok, Err, Option, Result}
use Rattle.wire.specs.declared.call.Call.{Call}
use Rattle.wire.specs.declared.fault.ReadFault.{ReadFault}
use Rattle.wire.specs.declared.message.Message.{Message}
use Rattle.wire.specs.declared.reader.Reader.{Reader}
use Rattle.wire.specs.Faults.{read_offset}
use Rattle.wire.specs.Reading.{reading}
use Rattle.wire.specs.Reads.{ahead, bytes_passed, messages_passed}
use Rattle.cabinet.specs.declared.located.Located.{Located}

-- the reader's answer, its fault with the ordinal of the message and the byte that the fault is about
abbrev pub read_located : ℕ → ℕ → Result (Option Message) ReadFault → Result (Option Message) (Located ReadFault)
read_located ordinal place (Ok m) = Ok m
read_located ordinal place (Err f) = Err (record { ordinal = ordinal; place = place + read_offset f; fault = f })

-- what a call of the reader makes of the message at its place
abbrev pub seen_by : Call → Reader → Result (Option Message) ReadFault
seen_by call r = reading call (ahead r)

-- the reader passes the message that it accepts, and else stays
pub record Passes (call : Call) (before after : Reader) : Type 0 where
  pub bytes : after.bytes.now ≡ before.bytes.now
  pub place : after.place ≡ before.place + bytes_passed (seen_by call before)
  pub passed : after.passed ≡ before.passed + messages_passed (seen_by call before)
