use Rattle.std.proofs.Common.{arith}
use Rattle.std.proofs.lemmas.Bool.Decides.{nat_tests}
use Rattle.terms.proofs.check.numbers_fit.Goals as goal

pub returns-else-notice : goal.returns-else-notice
returns-else-notice c = grind (arith, nat_tests)
