use Rattle.std.proofs.Common.{◌<◌, List, length, get_or, refl, ap, arith, rules}
use Rattle.std.proofs.lemmas.List.{length-set}
use Rattle.award.specs.declared.row.Row.{Row}
use Rattle.book.specs.Steps.{withdrawn_row}
use Rattle.book.proofs.Fitting.{fit_set, fit_at}
use Rattle.book.proofs.Finding.{found_below, found_within}
use Rattle.book.proofs.Moving.{marked}
use Rattle.book.proofs.book.Book.withdraw_at.Goals as goal

pub offset_bounds-self-at : goal.offset_bounds-self-at
offset_bounds-self-at g c =
    let b = c.args.self.now in
    let lt : c.args.at < length b.rows.now = found_within c.args.withdrawal.number b.used b.rows.now b.fit c.args.at c.requires in
    search rules

pub bounds-self-at : goal.bounds-self-at
bounds-self-at g c = let b = c.args.self.now in found_within c.args.withdrawal.number b.used b.rows.now b.fit c.args.at c.requires

pub bounds-self-at-2 : goal.bounds-self-at-2
bounds-self-at-2 g c = let b = c.args.self.now in found_within c.args.withdrawal.number b.used b.rows.now b.fit c.args.at c.requires

pub invariant_of-self : goal.invariant_of-self
invariant_of-self g c =
    let b = c.args.self.now in
    let below = found_below c.args.withdrawal.number b.used b.rows.now b.fit c.args.at c.requires in
    let row = get_or b.rows.now c.args.at c.index-self-at.result in
    let fits = fit_at b.used b.rows.now c.args.at c.index-self-at.result b.lots below (omega arith) in
    record { fit = simp length-set b.fit; few = b.few; places = b.places; lots = fit_set b.used b.rows.now c.args.at (withdrawn_row row) b.lots fits }

pub returns : goal.returns
returns g c =
    let b = c.args.self.now in
    let rows = marked c.args.withdrawal.number b.used b.rows.now b.fit c.args.at c.requires c.index-self-at.result in
    record {
      after = ap (λ (rs : List (Row g.row.S-Quote.Denot)). record {
        notice = b.notice.notice;
        state = b.state;
        used = b.used;
        arrivals = b.arrivals;
        last = c.args.withdrawal.second;
        rows = rs;
      }) rows;
      same = refl;
    }
