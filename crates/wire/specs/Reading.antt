-- What a call makes of the bytes behind a reader's place: a message, the end, or a refusal.
use Rattle.std.specs.Prelude.{ℕ, cond, List, length, Some, None, Ok, Err, Option, Result, ◌==◌, slice_index}
use Rattle.wire.specs.Grounds.{grounds, verdict}
use Rattle.wire.specs.Numbers.{four_at, signed_at}
use Rattle.wire.specs.declared.call.Call.{Call}
use Rattle.wire.specs.declared.fault.ReadFault.{ReadFault}
use Rattle.wire.specs.declared.message.Message.{Message}
use Rattle.wire.specs.declared.message.Message.TheVariants.{Notice, Entry, Change, Withdrawal, Close, Limit}

-- The byte at a place.
abbrev pub byte_at : List ℕ → ℕ → ℕ
byte_at b i = slice_index b i

-- The notice whose bytes stand at the front.
abbrev pub notice_at_front : List ℕ → Message
notice_at_front b =
    Notice (byte_at b 4) (byte_at b 5)
    (byte_at b 6) (byte_at b 7) (byte_at b 8) (byte_at b 9) (byte_at b 10) (byte_at b 11) (byte_at b 12) (byte_at b 13)
    (four_at b 14) (four_at b 18) (four_at b 22) (byte_at b 26) (four_at b 27) (four_at b 31)

-- The entry whose bytes stand at the front.
abbrev pub entry_at_front : List ℕ → Message
entry_at_front b =
    Entry
    (byte_at b 4) (byte_at b 5) (byte_at b 6) (byte_at b 7) (byte_at b 8) (byte_at b 9) (byte_at b 10) (byte_at b 11)
    (four_at b 12) (four_at b 16) (signed_at b 20) (four_at b 24)

-- The change whose bytes stand at the front.
abbrev pub change_at_front : List ℕ → Message
change_at_front b = Change (four_at b 4) (four_at b 8) (four_at b 12) (signed_at b 16) (four_at b 20)

-- The withdrawal whose bytes stand at the front.
abbrev pub withdrawal_at_front : List ℕ → Message
withdrawal_at_front b = Withdrawal (four_at b 4) (four_at b 8) (four_at b 12)

-- The message of a kind whose bytes stand at the front.
unfoldable pub decoded : ℕ → List ℕ → Message
decoded k b =
    cond (k == 0) (notice_at_front b)
    (cond (k == 1) (entry_at_front b)
    (cond (k == 2) (change_at_front b)
    (cond (k == 3) (withdrawal_at_front b)
    (cond (k == 4) (Close (four_at b 4)) (Limit (signed_at b 4))))))

-- The message at the front, of the kind that its fourth byte tells, unless it is refused.
abbrev pub judged : List ℕ → Result (Unit {0}) ReadFault → Result (Option Message) ReadFault
judged b (Ok u) = Ok (Some (decoded (byte_at b 3) b))
judged b (Err f) = Err f

-- What a call makes of some bytes: at the end no message, else the message at the front or the first ground against it.
abbrev pub reading : Call → List ℕ → Result (Option Message) ReadFault
reading call b = cond (length b == 0) (Ok None) (judged b (verdict (grounds call b)))
