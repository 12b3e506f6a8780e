-- Where an item finds no room, there is none for all items.
use Rattle.std.proofs.Common.{arith}
use Rattle.std.proofs.lemmas.List.Folds.{length-flat_map-take}
use Rattle.std.proofs.lemmas.Result.{err_from_is_err_and}
use Rattle.print.proofs.printed.EachPrinted.print.Goals as goal

pub returns-in_err-print-clause-printed : goal.returns-in_err-print-clause-printed
returns-in_err-print-clause-printed g c =
    let x = c.item-item.result in
    let fits = length-flat_map-take g.T.Printed.text c.args.self.now.0.now c.loop-item.item-index x c.loop-item-test.true in
    let failed = err_from_is_err_and c.from_residual.result c.from_residual.ensures.1 in
    rw failed.1 (omega (arith, simp (← c.item-item.is) at fits, c.in_err-print.ensures.printed, c.loop-item.invariant.left))
