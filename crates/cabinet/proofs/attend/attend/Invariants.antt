use Rattle.std.proofs.Common.{◌≡◌, ◌-◌, ◌≤◌, ◌++◌, length}
use Rattle.book.specs.Views.{view}
use Rattle.cabinet.specs.Attended.{refusals_from, book_from}
use Rattle.cabinet.proofs.attend.attend.Given as goal

abbrev pub invariant-loop-turn : goal.invariant-loop-turn
invariant-loop-turn g l =
    (length l.log ≤ l.turn)
    × (l.log
    ++ refusals_from g.S.Quote.Quote.number g.S.Quote.Quote.read g.S.Quote.Quote.no_worse g.S.Rule.SharingRule.meaning (length l.initial.demands) (length l.initial.shares)
    l.initial.reader.bytes.now (8_192 - l.turn) (view l.book) l.reader.passed l.reader.place
    ≡ refusals_from g.S.Quote.Quote.number g.S.Quote.Quote.read g.S.Quote.Quote.no_worse g.S.Rule.SharingRule.meaning (length l.initial.demands) (length l.initial.shares)
    l.initial.reader.bytes.now 8_192 (view l.initial.book) l.initial.reader.passed l.initial.reader.place)
    × (book_from g.S.Quote.Quote.number g.S.Quote.Quote.read g.S.Quote.Quote.no_worse g.S.Rule.SharingRule.meaning (length l.initial.demands) (length l.initial.shares)
    l.initial.reader.bytes.now (8_192 - l.turn) (view l.book) l.reader.passed l.reader.place
    ≡ book_from g.S.Quote.Quote.number g.S.Quote.Quote.read g.S.Quote.Quote.no_worse g.S.Rule.SharingRule.meaning (length l.initial.demands) (length l.initial.shares)
    l.initial.reader.bytes.now 8_192 (view l.initial.book) l.initial.reader.passed l.initial.reader.place)
    × (l.reader.bytes.now ≡ l.initial.reader.bytes.now)
    × (l.book.rows.ghost_name ≡ l.initial.book.rows.ghost_name)
