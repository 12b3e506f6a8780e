use Rattle.std.proofs.Common.{take, refl, ap, ◌∙◌, arith}
use Rattle.award.specs.Rows.{rows_fit}
use Rattle.book.specs.Places.{on_rows}
use Rattle.book.specs.Views.{view}
use Rattle.book.proofs.Fitting.{fit_closing}
use Rattle.book.proofs.Moving.{closing_copied}
use Rattle.book.proofs.book.Book.close_gap.Goals as goal

pub invariant_of-self : goal.invariant_of-self
invariant_of-self g c =
    let b = c.args.self.now in
    let fit = b.fit in
    let moved = c.copy_within.ensures.after ∙ closing_copied b.rows.now c.args.at b.used c.requires fit in
    let many = c.copy_within.ensures.len in
    record { fit = omega arith; few = b.few; places = b.places; lots = ap (λ rows. rows_fit (take b.used rows)) moved ∙ fit_closing c.args.at b.used b.rows.now c.requires b.lots }

pub returns : goal.returns
returns g c =
    let b = c.args.self.now in
    record { after = ap (on_rows (view b)) (c.copy_within.ensures.after ∙ closing_copied b.rows.now c.args.at b.used c.requires b.fit); same = refl }
