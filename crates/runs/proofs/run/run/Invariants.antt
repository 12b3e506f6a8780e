use Rattle.std.proofs.Common.{◌≡◌}
use Rattle.book.specs.Views.{view}
use Rattle.runs.proofs.Looping.{Midway}
use Rattle.runs.proofs.run.run.Given as goal

abbrev pub invariant-loop-exchange : goal.invariant-loop-exchange
invariant-loop-exchange g l =
    Midway g.S.Quote.Quote.number g.S.Quote.Quote.read g.S.Quote.Quote.no_worse g.S.Rule.SharingRule.meaning (view l.initial.book) l.initial.calls (view l.book) l.exchange-index l.calls
    × (l.book.rows.ghost_name ≡ l.initial.book.rows.ghost_name)
