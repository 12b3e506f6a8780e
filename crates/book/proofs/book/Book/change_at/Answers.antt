use Rattle.std.proofs.Common.{◌+◌, ◌-◌, set, ap, ◌∙◌, arith}
use Rattle.award.specs.declared.row.Row.{Row}
use Rattle.book.specs.Sheets.{Sheet}
use Rattle.book.specs.Steps.{new_row}
use Rattle.book.specs.Places.{on_rows}
use Rattle.book.specs.Views.{view}
use Rattle.book.proofs.Finding.{found_below}
use Rattle.book.proofs.Moving.{moved_last}
use Rattle.book.proofs.book.Book.change_at.Goals as goal

pub close_gap-requires : goal.close_gap-requires
close_gap-requires g c = let b = c.args.self.now in found_below c.args.change.number b.used b.rows.now b.fit c.args.replacement.at c.requires.found

pub overflow_sub-last : goal.overflow_sub-last
overflow_sub-last g c =
    let b = c.args.self.now in
    let below = found_below c.args.change.number b.used b.rows.now b.fit c.args.replacement.at c.requires.found in
    omega arith

pub put-requires : goal.put-requires
put-requires g c =
    let old = c.args.self.now in
    let below = found_below c.args.change.number old.used old.rows.now old.fit c.args.replacement.at c.requires.found in
    let used = ap (λ (s : Sheet g.row.S-Quote.Denot). s.used) c.close_gap.ensures.after in
    let fit = c.close_gap.new.self.fit in
    record { place = omega arith; lots = rw c.new-row.ensures c.requires.lots }

pub invariant_of-self : goal.invariant_of-self
invariant_of-self g c =
    let b = c.put.new.self in
    let moved = ap (λ (s : Sheet g.row.S-Quote.Denot). s.arrivals) c.close_gap.ensures.after in
    let written = ap (λ (s : Sheet g.row.S-Quote.Denot). s.arrivals) c.put.ensures.after in
    record { fit = b.fit; few = b.few; places = omega arith; lots = b.lots }

pub returns : goal.returns
returns g c =
    let old = c.args.self.now in
    let row = new_row c.args.change.number c.args.change.house c.args.replacement.quote c.args.change.lots in
    let rows = moved_last c.args.change.number old.used old.rows.now old.fit c.args.replacement.at c.requires.found row in
    let moved = c.close_gap.new.self in
    let after = c.put.ensures.after ∙ ap (λ (r : Row g.row.S-Quote.Denot). on_rows (view moved) (set moved.rows.now (old.used - 1) r)) c.new-row.ensures
    ∙ ap (λ (s : Sheet g.row.S-Quote.Denot). on_rows s (set s.rows (old.used - 1) row)) c.close_gap.ensures.after
    ∙ ap (on_rows (view old)) rows in
    record {
      after = ap (λ (s : Sheet g.row.S-Quote.Denot). record {
        notice = s.notice;
        state = s.state;
        used = s.used;
        arrivals = s.arrivals + 1;
        last = c.args.change.second;
        rows = s.rows;
      }) after;
      same = c.put.ensures.same ∙ c.close_gap.ensures.same;
    }
