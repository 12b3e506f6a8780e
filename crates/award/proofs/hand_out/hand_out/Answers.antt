use Rattle.award.proofs.Ready.{handed}
use Rattle.award.proofs.hand_out.hand_out.Goals as goal

pub returns-in-Divided-clause-lots : goal.returns-in-Divided-clause-lots
returns-in-Divided-clause-lots g c =
    handed g.Q.Quote.no_worse c.args.rows.now g.R.SharingRule.meaning g.met.R.SharingRule.fair c.args.limit c.in-Divided.cut c.in-Divided.balance c.args.reckoning
    c.divide.new.shares c.args.shares.now c.deal.new.lots c.divide.new.demands c.args.demands.now
    c.in-Divided.is c.requires.ready c.divide.ensures.shares c.divide.ensures.demands c.deal.ensures
