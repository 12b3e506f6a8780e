use Rattle.print.proofs.Lengths.{refusal_bound}
use Rattle.print.proofs.parts.RefusalPrinted.print.Goals as goal

pub returns-clause-bound : goal.returns-clause-bound
returns-clause-bound g c = λ _. refusal_bound c.args.self.now c.refusal_line.ensures.fits
