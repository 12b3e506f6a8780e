-- What calls make of a book and what a book tells, for the kind of quote and the sharing rule that it is opened for.
use Rattle.std.specs.Prelude.{◌≡◌, ℕ, Bool, List, length, ℤ, Option, Result}
use Rattle.terms.specs.declared.quote.Quote.{Ghosts as QuoteGhosts}
use Rattle.terms.specs.declared.sharing.SharingRule.{Ghosts as RuleGhosts}
use Rattle.award.specs.declared.row.Row.{Row}
use Rattle.award.specs.Award.{cut_off}
use Rattle.award.specs.Rows.{standing, lots_by_row, shares_at_cut}
use Rattle.book.specs.declared.book.Book.{Book}
use Rattle.book.specs.declared.event.Event.{Event}
use Rattle.book.specs.declared.fault.BookFault.{BookFault}
use Rattle.book.specs.declared.outcome.Outcome.{Outcome}
use Rattle.book.specs.Table.{Past, rows_there, timely}
use Rattle.book.specs.Questions.{terms_of}
use Rattle.book.specs.Sheets.{Sheet, in_use, past_of}
use Rattle.book.specs.Steps.{step}
use Rattle.book.specs.Told.{sheet_cut, sheet_allotment, sheet_outcome, row_outcome}
use Rattle.book.specs.Judging.{against, awarded_by}
use Rattle.book.specs.Views.{view}

module _ {S Q R : Type 0} {kind : QuoteGhosts Q} {rule : RuleGhosts R} where
  -- after a call a book has this sheet, and is over the rows that it was over
  pub record Becomes (old new : Book S Q R kind rule) (sheet : Sheet Q) : Type 0 where
    pub after : view new ≡ sheet
    pub same : new.rows.ghost_name ≡ old.rows.ghost_name

  module _ (b : Book S Q R kind rule) where
    -- what the accepted calls come to
    abbrev pub past : Past Q
    past = past_of kind.read (view b)

    -- the rows that it uses, and whether a second is one at which bids are taken
    abbrev pub room : ℕ
    room = rows_there kind.read (view b).notice (length (view b).rows)

    abbrev pub timely_in : ℕ → Bool
    timely_in second = timely kind.read (view b).notice (length (view b).rows) past second

    -- the fault of the first ground against an event that its state takes
    abbrev pub objection : Event → Option BookFault
    objection e = against kind.read 0 0 (view b) e

    -- an event, with two work tables of so many places: the book after it, and the answer
    abbrev pub taken : ℕ → ℕ → Event → Sheet Q × Result ℕ BookFault
    taken one other e = step kind.number kind.read kind.no_worse rule.meaning one other (view b) e

    -- the same for a limit that its state takes
    abbrev pub limited : ℕ → ℕ → ℤ → Sheet Q × Result ℕ BookFault
    limited one other quote = awarded_by kind.number kind.read kind.no_worse rule.meaning one other (view b) quote

    -- by a limit: the cut-off, the lots of each used row, and the shares at the cut-off
    abbrev pub cut_by : Q → Option Q
    cut_by limit = cut_off kind.no_worse (terms_of (view b).notice) limit (standing (in_use (view b)))

    abbrev pub lots_by : Q → List ℕ
    lots_by limit = lots_by_row kind.no_worse rule.meaning (terms_of (view b).notice) limit (in_use (view b))

    abbrev pub shares_by : Q → List ℕ
    shares_by limit = shares_at_cut kind.no_worse rule.meaning (terms_of (view b).notice) limit (in_use (view b))

    -- what it tells
    abbrev pub told_cut : Option Q
    told_cut = sheet_cut kind.read (view b)

    abbrev pub told_allotment : ℕ → Result ℕ BookFault
    told_allotment n = sheet_allotment kind.read (view b) n

    abbrev pub told_outcome : ℕ → Result Outcome BookFault
    told_outcome n = sheet_outcome kind.read kind.no_worse (view b) n

    abbrev pub told_row_outcome : Option (Row Q) → Outcome
    told_row_outcome row = row_outcome kind.read kind.no_worse (view b) row
