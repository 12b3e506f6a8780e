use Rattle.std.proofs.Common.{ℕ, false, List, length, take, Result, sym, refl, ap, ◌∙◌, w32}
use Rattle.std.proofs.lemmas.Int.{to_z-of_z}
use Rattle.std.proofs.lemmas.Bool.{both_ways}
use Rattle.award.specs.Rows.{lots_by_row, given_to}
use Rattle.book.specs.declared.fault.BookFault.{BookFault}
use Rattle.book.specs.Questions.{terms_of}
use Rattle.book.specs.Sheets.{Sheet}
use Rattle.book.specs.Steps.{state_by}
use Rattle.book.specs.Places.{on_rows}
use Rattle.book.specs.Views.{view}
use Rattle.book.proofs.Awarding.{quoted_ok, limit_taken, lots_in_front, in_state}
use Rattle.book.proofs.book.Book.award_by.Goals as goal

pub returns : goal.returns
returns g c =
    let b = c.args.self.now in
    let q = g.S.Quote.Quote in
    let share = g.S.Rule.SharingRule.meaning in
    let limit = c.in_ok-limit.limit in
    let read = quoted_ok (q.read c.args.quote) limit (rw (to_z-of_z w32 c.args.quote c.ranges.quote) at c.in_ok-limit.ensures) in
    let told = c.in_ok-cut.ensures in
    let done = limit_taken q.number q.read q.no_worse share (length c.args.demands.now) (length c.args.shares.now) (view b) c.args.quote limit read told.answer.0 in
    let lots = ap (take b.used) told.lots
    ∙ lots_in_front q.no_worse share (terms_of b.notice.notice) (terms_of b.notice.notice) refl limit b.rows.now b.used b.fit (take b.used b.rows.now) refl c.args.demands.now in
    let state = c.state_by-self.ensures ∙ ap (state_by q.number limit) told.answer.1 in
    record {
      result = sym (ap (λ (p : Sheet g.row.S-Quote.Denot × Result ℕ BookFault). p.1) done);
      book = record {
        after = ap (λ (s : Sheet g.row.S-Quote.Denot). in_state s c.state_by-self.result) c.allot.ensures.after
            ∙ ap (λ (xs : List ℕ). in_state (on_rows (view b) (given_to b.rows.now xs)) c.state_by-self.result) lots
            ∙ ap (in_state (on_rows (view b) (given_to b.rows.now (lots_by_row q.no_worse share (terms_of b.notice.notice) limit (take b.used b.rows.now))))) state
            ∙ sym (ap (λ (p : Sheet g.row.S-Quote.Denot × Result ℕ BookFault). p.0) done);
        same = c.allot.ensures.same;
      };
      tables = λ e. absurd (both_ways false refl e);
    }
