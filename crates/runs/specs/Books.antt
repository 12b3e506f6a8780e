-- A call on a book, for the kind of quote and the sharing rule that it is opened for.
use Rattle.std.specs.Prelude.{Result}
use Rattle.terms.specs.declared.quote.Quote.{Ghosts as QuoteGhosts}
use Rattle.terms.specs.declared.sharing.SharingRule.{Ghosts as RuleGhosts}
use Rattle.book.specs.declared.book.Book.{Book}
use Rattle.book.specs.declared.fault.BookFault.{BookFault}
use Rattle.book.specs.Sheets.{Sheet}
use Rattle.book.specs.Views.{view}
use Rattle.runs.specs.declared.call.Call.{Call}
use Rattle.runs.specs.declared.call.Answer.{Answer}
use Rattle.runs.specs.declared.call.Exchange.{Exchange}
use Rattle.runs.specs.Runs.{sheet_with, sheet_answer, exchange_by}

module _ {S Q R : Type 0} {kind : QuoteGhosts Q} {rule : RuleGhosts R} (b : Book S Q R kind rule) where
  -- what it answers
  abbrev pub told : Call → Result (Answer Q) BookFault
  told c = sheet_answer kind.number kind.read kind.no_worse rule.meaning (view b) c

  -- its sheet afterwards
  abbrev pub after_call : Call → Sheet Q
  after_call c = sheet_with kind.number kind.read kind.no_worse rule.meaning (view b) c

  -- an exchange whose call is made on it
  abbrev pub exchange_on : Exchange Q → Exchange Q
  exchange_on x = exchange_by kind.number kind.read kind.no_worse rule.meaning (view b) x
