use Rattle.std.proofs.Common.{◌<◌, length, sym, ap, ◌∙◌, rules}
use Rattle.award.specs.declared.row.Row.{Row}
use Rattle.book.proofs.Finding.{found_within}
use Rattle.book.proofs.Naming.{none_named, other_named, own_named}
use Rattle.book.proofs.book.Book.judge_bid.Goals as goal

pub returns-in_default : goal.returns-in_default
returns-in_default g c =
    let b = c.args.self.now in
    none_named c.args.number c.args.house b.used b.rows.now (sym c.in_default.ensures)

pub offset_bounds-self-at : goal.offset_bounds-self-at
offset_bounds-self-at g c =
    let b = c.args.self.now in
    let lt : c.in-Some.at < length b.rows.now = found_within c.args.number b.used b.rows.now b.fit c.in-Some.at (sym c.in-Some.ensures) in
    search rules

pub bounds-self-at : goal.bounds-self-at
bounds-self-at g c =
    let b = c.args.self.now in
    found_within c.args.number b.used b.rows.now b.fit c.in-Some.at (sym c.in-Some.ensures)

pub returns-then-self-at : goal.returns-then-self-at
returns-then-self-at g c =
    let b = c.args.self.now in
    let place = sym c.in-Some.ensures in
    other_named c.args.number c.args.house b.used b.rows.now b.fit c.in-Some.at place c.index-self-at.result c.index-self-at.is
    (λ e. c.if-self-at.true (ap (λ (r : Row g.row.S-Quote.Denot). r.house) (sym c.index-self-at.is) ∙ e))

pub returns : goal.returns
returns g c =
    let b = c.args.self.now in
    let place = sym c.in-Some.ensures in (
      own_named c.args.number c.args.house b.used b.rows.now b.fit c.in-Some.at place c.index-self-at.result c.index-self-at.is
          (ap (λ (r : Row g.row.S-Quote.Denot). r.house) c.index-self-at.is ∙ c.if-self-at.false),
      place,
    )
