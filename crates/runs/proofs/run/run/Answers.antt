use Rattle.std.proofs.Common.{◌≡◌, ap, ◌∙◌, rules}
use Rattle.book.specs.Sheets.{opened}
use Rattle.book.specs.Views.{view}
use Rattle.runs.specs.Runs.{sheet_after, calls_of}
use Rattle.runs.proofs.Looping.{exchanged, midway_all, midway_more}
use Rattle.runs.proofs.Running.{checked_fits, run_law}
use Rattle.runs.proofs.run.run.Goals as goal

pub loop-exchange-preserved : goal.loop-exchange-preserved
loop-exchange-preserved g c = (
  midway_more g.S.Quote.Quote.number g.S.Quote.Quote.read g.S.Quote.Quote.no_worse g.S.Rule.SharingRule.meaning
      (view c.open-book.result) c.args.calls.now (view c.loop-exchange.book) (view c.fill.new.book) c.loop-exchange.exchange-index c.loop-exchange.calls
      c.exchange-item.result c.fill.new.exchange (search rules) c.fill.ensures.answer c.fill.ensures.book.after c.loop-exchange.invariant.0,
  c.fill.ensures.book.same ∙ c.loop-exchange.invariant.1,
)

pub returns : goal.returns
returns g c =
    let number = g.S.Quote.Quote.number in
    let read = g.S.Quote.Quote.read in
    let no_worse = g.S.Quote.Quote.no_worse in
    let share = g.S.Rule.SharingRule.meaning in
    let rows = c.args.rows.now in
    let calls = c.args.calls.now in
    let notice = c.args.notice.notice in
    let end =
    midway_all number read no_worse share (view c.open-book.result) calls (view c.loop-exchange.book) c.loop-exchange.exchange-index c.loop-exchange.calls
    c.loop-exchange.invariant.0 (search rules) in
    let start : view c.open-book.result ≡ opened notice rows = c.open-book.ensures.value in
    let made : c.loop-exchange.calls ≡ exchanged number read no_worse share (opened notice rows) calls = end.0 ∙ ap (λ s. exchanged number read no_worse share s calls) start in
    let kept : view c.loop-exchange.book ≡ sheet_after number read no_worse share (opened notice rows) (calls_of calls) =
    end.1 ∙ ap (λ s. sheet_after number read no_worse share s (calls_of calls)) start in
    let rows_end = ap (λ s. s.rows) kept in
    run_law number read no_worse share g.met.S.Quote.Quote.lawful g.met.S.Rule.SharingRule.fair notice (checked_fits c.args.notice) rows calls _ _ (search rules ∙ rows_end) made
