use Rattle.runs.proofs.Moments.{moment}
use Rattle.runs.proofs.law.law_holds.Goals as goal

pub returns : goal.returns
returns g c = λ notice table before fits. moment g.Q.Quote.read g.Q.Quote.no_worse g.R.SharingRule.meaning notice table g.met.Q.Quote.lawful g.met.R.SharingRule.fair fits before
