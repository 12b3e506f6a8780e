use Rattle.std.proofs.Common.{pos, w32}
use Rattle.std.proofs.lemmas.Int.{to_z-of_z}
use Rattle.terms.specs.Quoting.{read_made}
use Rattle.terms.proofs.rate_quote.RateQuote.read.Goals as goal

pub returns : goal.returns
returns c = read_made (pos 0) (pos 9_999) (λ n e. record { hundredths = n; within = e }) _ _ _ (to_z-of_z w32 c.args.value c.ranges.value)
