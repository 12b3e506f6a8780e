-- Reader and writer are each other's inverse: no message is lost on the way, and no message has two encodings.
use Rattle.std.specs.Prelude.{◌≡◌, ℕ, ◌<◌, ◌≤◌, true, List, ◌++◌, length, drop, Some, Ok, Err, Result}
use Rattle.wire.specs.Grounds.{taken}
use Rattle.wire.specs.Messages.{kind_of, encode}
use Rattle.wire.specs.Reading.{reading}
use Rattle.wire.specs.declared.back.Back.{Back}
use Rattle.wire.specs.declared.call.Call.{Call}
use Rattle.wire.specs.declared.call.Call.TheVariants.{Opening, Session}
use Rattle.wire.specs.declared.fault.WriteFault.{WriteFault}
use Rattle.wire.specs.declared.message.Message.{Message}
use Rattle.wire.specs.declared.message.Message.TheVariants.{Notice, Entry, Change, Withdrawal, Close, Limit}

-- From the message to its bytes and back: what is written of a message, and read by a call that takes its kind, is that
-- message, whatever bytes follow.
abbrev pub ComesBack : Message → Type 0
ComesBack m =
    (call : Call) (more : List ℕ) → taken call (kind_of m) ≡ true → reading call (encode m ++ more) ≡ Ok (Some m)

-- From bytes to the message and back: the bytes begin with what is written of the message. A reader shows it of every
-- message that it gives and the bytes that it stood on.
abbrev pub BeginWith : List ℕ → Message → Type 0
BeginWith b m = b ≡ encode m ++ drop (length (encode m)) b

-- The call that takes a message.
abbrev pub call_for : Message → Call
call_for (Notice c r s0 s1 s2 s3 s4 s5 s6 s7 o m p n a z) = Opening
call_for (Entry s0 s1 s2 s3 s4 s5 s6 s7 h t q l) = Session
call_for (Change n h t q l) = Session
call_for (Withdrawal n h t) = Session
call_for (Close t) = Session
call_for (Limit q) = Session

-- The message itself is read, the reader stands right behind it, and the space holds its bytes and then what it held.
pub record Returned (m : Message) (before after : List ℕ) (b : Back) : Type 0 where
  pub read : b.read ≡ Ok (Some m)
  pub place : b.place ≡ length (encode m)
  pub fits : length (encode m) ≤ length before
  pub space : after ≡ encode m ++ drop (length (encode m)) before

-- A message returns from every space that is long enough; a shorter one is refused and left as it was.
abbrev pub Returns : Message → List ℕ → List ℕ → Result Back WriteFault → Type 0
Returns m before after (Ok b) = Returned m before after b
Returns m before after (Err f) = (length before < length (encode m)) × (after ≡ before)
