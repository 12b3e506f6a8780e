-- A session from its first message to its last: the refusals on the way, and the book at the end.
use Rattle.std.specs.Prelude.{ℕ, zero, suc, ◌+◌, Bool, true, false, cond, List, [], ◌∷◌, ◌++◌, drop, ℤ, Some, None, Ok, Err, Option, Result}
use Rattle.book.specs.Sheets.{Sheet}
use Rattle.wire.specs.declared.call.Call.TheVariants.{Session}
use Rattle.wire.specs.declared.fault.ReadFault.{ReadFault}
use Rattle.wire.specs.declared.message.Message.{Message}
use Rattle.wire.specs.Reading.{reading}
use Rattle.wire.specs.Reads.{bytes_passed, messages_passed}
use Rattle.print.specs.declared.refusal.Refusal.{Refusal}
use Rattle.cabinet.specs.declared.fault.LowerFault.{LowerFault}
use Rattle.cabinet.specs.declared.fault.LowerFault.TheVariants as lower
use Rattle.cabinet.specs.declared.fault.SessionFault.{SessionFault}
use Rattle.cabinet.specs.Faults.{session_number}
use Rattle.cabinet.specs.Sessions.{book_by, answer_by}

-- a refusal as it is printed
abbrev pub refusal_of : SessionFault → Refusal
refusal_of f = record { ordinal = f.ordinal; number = session_number f; place = f.place }

-- the refusal that an answer is, if it is one
abbrev pub refusals_in : {A : Type 0} → Result A SessionFault → List Refusal
refusals_in (Ok x) = []
refusals_in (Err f) = refusal_of f ∷ []

-- the reading goes on after a refusal of the book, and stops at one of the reader
abbrev pub goes_past : LowerFault → Bool
goes_past (lower.Read f) = false
goes_past (lower.Notice f) = true
goes_past (lower.Book f) = true

-- the reading goes on after an answer, unless that was the end or the reader refused
abbrev pub goes_on : Result (Option ℕ) SessionFault → Bool
goes_on (Ok None) = false
goes_on (Ok (Some n)) = true
goes_on (Err f) = goes_past f.fault

-- what the reader makes of the message at a place of these bytes
abbrev pub seen_at : List ℕ → ℕ → Result (Option Message) ReadFault
seen_at bytes place = reading Session (drop place bytes)

-- The messages from a place of the bytes on, at most so many, with the ordinal of the first; the book has two work tables of so many places.
module _ {Q : Type 0} (number : Q → ℤ) (read : ℤ → Option Q) (no_worse : Q → Q → Bool) (share : List ℕ → ℕ → List ℕ) (one other : ℕ) (bytes : List ℕ) where
  -- the answer to the message at a place
  abbrev pub answer_at : Sheet Q → ℕ → ℕ → Result (Option ℕ) SessionFault
  answer_at s ordinal place = answer_by number read no_worse share one other s ordinal place (seen_at bytes place)

  -- the refusals, in their order
  unfoldable pub refusals_from : ℕ → Sheet Q → ℕ → ℕ → List Refusal
  refusals_from zero s ordinal place = []
  refusals_from (suc k) s ordinal place =
      refusals_in (answer_at s ordinal place)
      ++ cond (goes_on (answer_at s ordinal place))
      (refusals_from k (book_by number read no_worse share one other s (seen_at bytes place)) (ordinal + messages_passed (seen_at bytes place))
      (place + bytes_passed (seen_at bytes place)))
      []

  -- the book after them
  unfoldable pub book_from : ℕ → Sheet Q → ℕ → ℕ → Sheet Q
  book_from zero s ordinal place = s
  book_from (suc k) s ordinal place =
      cond (goes_on (answer_at s ordinal place))
      (book_from k (book_by number read no_worse share one other s (seen_at bytes place)) (ordinal + messages_passed (seen_at bytes place))
      (place + bytes_passed (seen_at bytes place)))
      (book_by number read no_worse share one other s (seen_at bytes place))
