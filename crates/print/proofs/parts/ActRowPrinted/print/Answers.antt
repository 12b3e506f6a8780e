use Rattle.print.proofs.Lengths.{row_bound}
use Rattle.print.proofs.parts.ActRowPrinted.print.Goals as goal

pub returns-clause-bound : goal.returns-clause-bound
returns-clause-bound g c = λ _. row_bound c.args.self.now c.row_line.ensures.fits
