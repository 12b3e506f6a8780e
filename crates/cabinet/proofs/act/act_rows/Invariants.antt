use Rattle.std.proofs.Common.{◌≡◌, ◌+◌, ◌-◌, ◌≤◌, length}
use Rattle.book.specs.Views.{view}
use Rattle.cabinet.specs.Acts.{rows_to}
use Rattle.cabinet.proofs.act.act_rows.Given as goal

abbrev pub invariant-loop-number : goal.invariant-loop-number
invariant-loop-number g l =
    (length l.rows + 1 ≤ l.number)
    × (l.number ≤ l.number-end + 1)
    × (l.rows ≡ rows_to g.S.Quote.Quote.number g.S.Quote.Quote.read g.S.Quote.Quote.no_worse (view l.book) (l.number - 1))
