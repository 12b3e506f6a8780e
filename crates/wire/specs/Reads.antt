-- What a call of the reader answers, and where the reader then stands.
use Rattle.std.specs.Prelude.{◌≡◌, ℕ, ◌+◌, ◌<◌, true, List, length, drop, Some, None, Ok, Err, Option, Result}
use Rattle.wire.specs.Faults.{read_offset}
use Rattle.wire.specs.Grounds.{taken}
use Rattle.wire.specs.Messages.{kind_of, encode}
use Rattle.wire.specs.Reading.{reading}
use Rattle.wire.specs.RoundTrips.{BeginWith}
use Rattle.wire.specs.declared.call.Call.{Call}
use Rattle.wire.specs.declared.fault.ReadFault.{ReadFault}
use Rattle.wire.specs.declared.message.Message.{Message}
use Rattle.wire.specs.declared.reader.Reader.{Reader}

-- Something holds of the message that an answer gives, if it gives one.
abbrev pub OfMessage : (Message → Type 0) → Result (Option Message) ReadFault → Type 0
OfMessage P (Ok None) = Unit {0}
OfMessage P (Ok (Some m)) = P m
OfMessage P (Err f) = Unit {0}

-- Something holds of the refusal that an answer is, if it is one.
abbrev pub OfRefusal : (ReadFault → Type 0) → Result (Option Message) ReadFault → Type 0
OfRefusal P (Ok m) = Unit {0}
OfRefusal P (Err f) = P f

-- How many bytes an answer passes: those of its message.
abbrev pub bytes_passed : Result (Option Message) ReadFault → ℕ
bytes_passed (Ok None) = 0
bytes_passed (Ok (Some m)) = length (encode m)
bytes_passed (Err f) = 0

-- How many messages an answer passes.
abbrev pub messages_passed : Result (Option Message) ReadFault → ℕ
messages_passed (Ok None) = 0
messages_passed (Ok (Some m)) = 1
messages_passed (Err f) = 0

-- What a call answers to some bytes: it is determined by them, its message is of a kind that the call takes and
-- written again gives the bytes that it was read from, and its refusal is about a byte that there is.
pub record Replies (call : Call) (b : List ℕ) (answer : Result (Option Message) ReadFault) : Type 0 where
  pub told : answer ≡ reading call b
  pub kind : OfMessage (λ m. taken call (kind_of m) ≡ true) answer
  pub again : OfMessage (BeginWith b) answer
  pub seen : OfRefusal (λ f. read_offset f < length b) answer

-- The bytes behind a reader's place.
abbrev pub ahead : Reader → List ℕ
ahead r = drop r.place r.bytes.now

-- A call on a reader answers to the bytes behind its place, and moves it past the message that it gives.
pub record Reads (call : Call) (before after : Reader) (answer : Result (Option Message) ReadFault) : Type 0 where
  pub reply : Replies call (ahead before) answer
  pub bytes : after.bytes.now ≡ before.bytes.now
  pub place : after.place ≡ before.place + bytes_passed answer
  pub passed : after.passed ≡ before.passed + messages_passed answer
