use Rattle.std.proofs.Common.{◌<◌, length, rules}
use Rattle.std.proofs.lemmas.List.{length-set}
use Rattle.book.proofs.Fitting.{fit_set}
use Rattle.book.proofs.book.Book.put.Goals as goal

pub offset_bounds-self-at : goal.offset_bounds-self-at
offset_bounds-self-at g c = let lt : c.args.at < length c.args.self.now.rows.now = c.requires.place in search rules

pub invariant_of-self : goal.invariant_of-self
invariant_of-self g c =
    let b = c.args.self.now in
    record { fit = simp length-set b.fit; few = b.few; places = b.places; lots = fit_set b.used b.rows.now c.args.at c.args.row b.lots c.requires.lots }
