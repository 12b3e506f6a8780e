-- What a session makes of a book and what is printed of it, for the kind of quote and the sharing rule that it is opened for.
use Rattle.std.specs.Prelude.{ℕ, Bool, List, Option, Result}
use Rattle.terms.specs.declared.quote.Quote.{Ghosts as QuoteGhosts}
use Rattle.terms.specs.declared.sharing.SharingRule.{Ghosts as RuleGhosts}
use Rattle.award.specs.declared.row.Row.{Row}
use Rattle.book.specs.declared.book.Book.{Book}
use Rattle.book.specs.declared.event.Event.{Event}
use Rattle.book.specs.declared.fault.BookFault.{BookFault}
use Rattle.book.specs.Sheets.{Sheet}
use Rattle.book.specs.Told.{sheet_cut}
use Rattle.book.specs.Views.{view}
use Rattle.wire.specs.declared.call.Call.TheVariants.{Session}
use Rattle.wire.specs.declared.reader.Reader.{Reader}
use Rattle.print.specs.declared.head.Cut.{Cut}
use Rattle.print.specs.declared.refusal.Refusal.{Refusal}
use Rattle.print.specs.declared.row.ActRow.{ActRow}
use Rattle.cabinet.specs.declared.fault.SessionFault.{SessionFault}
use Rattle.cabinet.specs.Readings.{seen_by}
use Rattle.cabinet.specs.Sessions.{put, book_by, answer_by, session_writes}
use Rattle.cabinet.specs.Attended.{refusals_from, book_from}
use Rattle.cabinet.specs.Acts.{one_row, act_rows, award_by, act_print}

module _ {S Q R : Type 0} {kind : QuoteGhosts Q} {rule : RuleGhosts R} (b : Book S Q R kind rule) where
  -- the event of a message, if it has one, with two work tables of so many places: the book after it, and the answer
  abbrev pub put_on : ℕ → ℕ → Option Event → Sheet Q × Result ℕ BookFault
  put_on one other e = put kind.number kind.read kind.no_worse rule.meaning one other (view b) e

  -- the message at a reader's place: what the session call answers, the book after it, and whether the work tables may have been written
  abbrev pub answer_on : ℕ → ℕ → Reader → Result (Option ℕ) SessionFault
  answer_on one other r = answer_by kind.number kind.read kind.no_worse rule.meaning one other (view b) r.passed r.place (seen_by Session r)

  abbrev pub sheet_on : ℕ → ℕ → Reader → Sheet Q
  sheet_on one other r = book_by kind.number kind.read kind.no_worse rule.meaning one other (view b) (seen_by Session r)

  abbrev pub writes_on : ℕ → ℕ → Reader → Bool
  writes_on one other r = session_writes kind.number kind.read kind.no_worse rule.meaning one other (view b) (seen_by Session r)

  -- the messages from a reader's place on, at most 8,192: the refusals, and the book after them
  abbrev pub refusals_on : ℕ → ℕ → Reader → List Refusal
  refusals_on one other r = refusals_from kind.number kind.read kind.no_worse rule.meaning one other r.bytes.now 8_192 (view b) r.passed r.place

  abbrev pub sheet_after : ℕ → ℕ → Reader → Sheet Q
  sheet_after one other r = book_from kind.number kind.read kind.no_worse rule.meaning one other r.bytes.now 8_192 (view b) r.passed r.place

  -- what is printed of it: the row of a number, all rows, what became of the offer, and the whole
  abbrev pub row_on : ℕ → Option (Row Q) → List ActRow
  row_on n row = one_row kind.number kind.read kind.no_worse (view b) n row

  abbrev pub rows_on : List ActRow
  rows_on = act_rows kind.number kind.read kind.no_worse (view b)

  abbrev pub award_on : Option Cut
  award_on = award_by kind.number kind.read kind.no_worse (view b) (sheet_cut kind.read (view b))

  abbrev pub print_on : List ℕ
  print_on = act_print kind.number kind.read kind.no_worse kind.word (view b)
