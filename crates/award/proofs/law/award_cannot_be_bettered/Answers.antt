use Rattle.award.proofs.Bettered.{cannot_be_bettered}
use Rattle.award.proofs.law.award_cannot_be_bettered.Goals as goal

pub returns : goal.returns
returns g c = λ t limit bids sound. cannot_be_bettered g.met.Q.Quote.lawful t limit bids sound g.met.R.SharingRule.fair
