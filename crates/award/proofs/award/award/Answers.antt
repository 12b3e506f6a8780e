use Rattle.award.specs.Rows.{terms_of}
use Rattle.award.proofs.Ready.{ready}
use Rattle.award.proofs.award.award.Goals as goal

pub hand_out-requires-clause-ready : goal.hand_out-requires-clause-ready
hand_out-requires-clause-ready g c =
    ready g.Q.Quote.no_worse c.args.bids.rows.now (terms_of c.args.conditions) c.args.limit c.reckon-reckoning.result
    c.args.bids.few c.args.bids.lots c.args.conditions.small c.reckon-reckoning.ensures
