use Rattle.std.proofs.Common.{length}
use Rattle.print.proofs.Lengths.{print_bound}
use Rattle.print.proofs.writer.write_print.Goals as goal

pub returns-clause-enough : goal.returns-clause-enough
returns-clause-enough c = print_bound (length c.args.space.now) c.args.refusals.now c.args.ending c.write.ensures.bound
