-- The sheet of a book.
use Rattle.terms.specs.declared.quote.Quote.{Ghosts as QuoteGhosts}
use Rattle.terms.specs.declared.sharing.SharingRule.{Ghosts as RuleGhosts}
use Rattle.book.specs.declared.book.Book.{Book}
use Rattle.book.specs.Sheets.{Sheet}

abbrev pub view : {S Q R : Type 0} {kind : QuoteGhosts Q} {rule : RuleGhosts R} → Book S Q R kind rule → Sheet Q
view b = record { notice = b.notice.notice; state = b.state; used = b.used; arrivals = b.arrivals; last = b.last; rows = b.rows.now }
