use Rattle.std.proofs.Common.{ℕ, ◌+◌, ◌<◌, List, length, set, refl, ap, ◌∙◌, arith, rules}
use Rattle.std.proofs.lemmas.List.{length-set}
use Rattle.award.specs.declared.row.Row.{Row}
use Rattle.book.specs.Steps.{new_row}
use Rattle.book.proofs.Fitting.{fit_next}
use Rattle.book.proofs.Moving.{next_written}
use Rattle.book.proofs.book.Book.enter.Goals as goal

pub offset_bounds-self-at : goal.offset_bounds-self-at
offset_bounds-self-at g c = let lt : c.rows_used-at.result < length c.args.self.now.rows.now = omega arith in search rules

pub invariant_of-self : goal.invariant_of-self
invariant_of-self g c =
    let b = c.args.self.now in
    record { fit = simp length-set (omega arith); few = omega arith; places = omega arith; lots = fit_next b.used c.rows_used-at.result b.rows.now c.new-row.result c.rows_used-at.ensures b.lots (rw c.new-row.ensures c.requires.lots) }

pub returns : goal.returns
returns g c =
    let b = c.args.self.now in
    let row = λ (n : ℕ). new_row n c.args.entry.house c.args.quote c.args.entry.lots in
    let rows = ap (λ (r : Row g.row.S-Quote.Denot). set b.rows.now c.rows_used-at.result r) c.new-row.ensures
    ∙ ap (λ (n : ℕ). set b.rows.now c.rows_used-at.result (row n)) c.next_number-number.ensures
    ∙ next_written b.rows.now b.used c.rows_used-at.result (row (b.used + 1)) c.rows_used-at.ensures c.requires.room in
    record {
      result = c.next_number-number.ensures;
      book = record {
        after = ap (λ (rs : List (Row g.row.S-Quote.Denot)). record {
          notice = b.notice.notice;
          state = b.state;
          used = b.used + 1;
          arrivals = b.arrivals + 1;
          last = c.args.entry.second;
          rows = rs;
        }) rows;
        same = refl;
      };
    }
