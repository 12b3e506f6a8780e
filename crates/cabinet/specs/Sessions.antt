-- What the calls of a session answer: first the reader judges the message, then the check of a notice or the book.
use Rattle.std.specs.Prelude.{ℕ, ◌+◌, Bool, false, List, [], ◌∷◌, ℤ, Some, None, Ok, Err, Option, Result}
use Rattle.terms.specs.declared.fault.NoticeFault.{NoticeFault}
use Rattle.terms.specs.declared.notice.NoticeFields.{NoticeFields}
use Rattle.terms.specs.declared.notice.Notice as notice
use Rattle.terms.specs.Grounds.{first}
use Rattle.terms.specs.Notices.{notice_grounds, noted}
use Rattle.book.specs.declared.event.Event.{Event}
use Rattle.book.specs.declared.event.Event.TheVariants as event
use Rattle.book.specs.declared.fault.BookFault.{BookFault}
use Rattle.book.specs.Sheets.{Sheet}
use Rattle.book.specs.Steps.{step, writes_tables}
use Rattle.wire.specs.declared.fault.ReadFault.{ReadFault}
use Rattle.wire.specs.declared.message.Message.{Message}
use Rattle.wire.specs.declared.message.Message.TheVariants.{Notice, Entry, Change, Withdrawal, Close, Limit}
use Rattle.wire.specs.Faults.{read_offset}
use Rattle.cabinet.specs.declared.fault.LowerFault.TheVariants as lower
use Rattle.cabinet.specs.declared.fault.SessionFault.{SessionFault}

-- eight single bytes as a series code
abbrev pub series_of : ℕ → ℕ → ℕ → ℕ → ℕ → ℕ → ℕ → ℕ → List ℕ
series_of s0 s1 s2 s3 s4 s5 s6 s7 = s0 ∷ s1 ∷ s2 ∷ s3 ∷ s4 ∷ s5 ∷ s6 ∷ s7 ∷ []

-- the fields of a notice message
abbrev pub fields_of : Message → Option NoticeFields
fields_of (Notice c r s0 s1 s2 s3 s4 s5 s6 s7 o m p n a z) =
    Some
    record {
      quote_code = c;
      sharing_code = r;
      notice =
          record {
            series = series_of s0 s1 s2 s3 s4 s5 s6 s7;
            offer = o;
            minimum = m;
            least_placement = p;
            least_number = n;
            opening = a;
            closing = z;
          };
    }
fields_of (Entry s0 s1 s2 s3 s4 s5 s6 s7 h t q l) = None
fields_of (Change n h t q l) = None
fields_of (Withdrawal n h t) = None
fields_of (Close t) = None
fields_of (Limit q) = None

-- the event of any other message
abbrev pub event_of : Message → Option Event
event_of (Notice c r s0 s1 s2 s3 s4 s5 s6 s7 o m p n a z) = None
event_of (Entry s0 s1 s2 s3 s4 s5 s6 s7 h t q l) = Some (event.Entry (record { series = series_of s0 s1 s2 s3 s4 s5 s6 s7; house = h; second = t; quote = q; lots = l }))
event_of (Change n h t q l) = Some (event.Change (record { number = n; house = h; second = t; quote = q; lots = l }))
event_of (Withdrawal n h t) = Some (event.Withdrawal (record { number = n; house = h; second = t }))
event_of (Close t) = Some (event.Close t)
event_of (Limit q) = Some (event.Limit q)

-- the reader's refusal of the message at a place, told at the byte that it is about
abbrev pub read_refusal : ℕ → ℕ → ReadFault → SessionFault
read_refusal ordinal place f = record { ordinal = ordinal; place = place + read_offset f; fault = lower.Read f }

-- The notice that was read, with the codes of the kind and the rule that it is checked for.
module _ (kind rule : ℕ) where
  -- why a notice is refused, if it is
  abbrev pub against : Option NoticeFields → Option NoticeFault
  against None = None
  against (Some f) = first (notice_grounds kind rule f)

  abbrev pub notice_answer : ℕ → ℕ → Option NoticeFault → Result (Option (Unit {0})) SessionFault
  notice_answer ordinal place None = Ok (Some tt)
  notice_answer ordinal place (Some f) = Err (record { ordinal = ordinal; place = place; fault = lower.Notice f })

  -- what the notice call answers to what the reader makes of the message with this ordinal at this place
  abbrev pub opened_by : ℕ → ℕ → Result (Option Message) ReadFault → Result (Option (Unit {0})) SessionFault
  opened_by ordinal place (Ok None) = Ok None
  opened_by ordinal place (Ok (Some m)) = notice_answer ordinal place (against (fields_of m))
  opened_by ordinal place (Err f) = Err (read_refusal ordinal place f)

  -- the caller's place for a checked notice after it
  abbrev pub noted_fields : Option NoticeFields → notice.Notice → notice.Notice
  noted_fields None before = before
  noted_fields (Some f) before = noted (first (notice_grounds kind rule f)) f.notice before

  abbrev pub noted_by : Result (Option Message) ReadFault → notice.Notice → notice.Notice
  noted_by (Ok None) before = before
  noted_by (Ok (Some m)) before = noted_fields (fields_of m) before
  noted_by (Err f) before = before

-- only an accepted limit writes into the work tables
abbrev pub event_writes : Option Event → Result ℕ BookFault → Bool
event_writes None r = false
event_writes (Some e) r = writes_tables e r

abbrev pub message_writes : Message → Result ℕ BookFault → Bool
message_writes m r = event_writes (event_of m) r

-- The event that was read, put to a book; `number`, `read` and `no_worse` are the kind's, `share` the rule's, and the work tables have so many places.
module _ {Q : Type 0} (number : Q → ℤ) (read : ℤ → Option Q) (no_worse : Q → Q → Bool) (share : List ℕ → ℕ → List ℕ) (one other : ℕ) where
  -- the book and its answer after the event of a message
  abbrev pub put : Sheet Q → Option Event → Sheet Q × Result ℕ BookFault
  put s None = (s, Ok 0)
  put s (Some e) = step number read no_worse share one other s e

  abbrev pub event_answer : ℕ → ℕ → Result ℕ BookFault → Result (Option ℕ) SessionFault
  event_answer ordinal place (Ok n) = Ok (Some n)
  event_answer ordinal place (Err f) = Err (record { ordinal = ordinal; place = place; fault = lower.Book f })

  -- the book after what the reader makes of a message, and what the session call answers
  abbrev pub book_by : Sheet Q → Result (Option Message) ReadFault → Sheet Q
  book_by s (Ok None) = s
  book_by s (Ok (Some m)) = (put s (event_of m)).0
  book_by s (Err f) = s

  abbrev pub answer_by : Sheet Q → ℕ → ℕ → Result (Option Message) ReadFault → Result (Option ℕ) SessionFault
  answer_by s ordinal place (Ok None) = Ok None
  answer_by s ordinal place (Ok (Some m)) = event_answer ordinal place (put s (event_of m)).1
  answer_by s ordinal place (Err f) = Err (read_refusal ordinal place f)

  -- whether the work tables may have been written
  abbrev pub session_writes : Sheet Q → Result (Option Message) ReadFault → Bool
  session_writes s (Ok None) = false
  session_writes s (Ok (Some m)) = message_writes m (put s (event_of m)).1
  session_writes s (Err f) = false
