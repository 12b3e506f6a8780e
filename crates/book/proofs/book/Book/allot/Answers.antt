use Rattle.std.proofs.Common.{length, take, ap, ◌∙◌, arith}
use Rattle.award.specs.Rows.{rows_fit}
use Rattle.book.proofs.Fitting.{fit_given, given_length}
use Rattle.book.proofs.book.Book.allot.Goals as goal

pub invariant_of-self : goal.invariant_of-self
invariant_of-self g c =
    let b = c.args.self.now in
    let many = ap length c.allot.ensures ∙ given_length b.rows.now _ in
    let fit = b.fit in
    record { fit = omega arith; few = b.few; places = b.places; lots = ap (λ rows. rows_fit (take b.used rows)) c.allot.ensures ∙ fit_given b.used b.rows.now _ ∙ b.lots }
