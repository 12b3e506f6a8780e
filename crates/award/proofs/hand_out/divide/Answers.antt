use Rattle.std.proofs.Common.{arith}
use Rattle.std.proofs.lemmas.Grind.{common_steps}
use Rattle.award.proofs.Handing.{demands_rows}
use Rattle.award.proofs.hand_out.divide.Goals as goal

pub ask-requires-clause-places : goal.ask-requires-clause-places
ask-requires-clause-places g c =
    let few = demands_rows g.Q.Quote.no_worse c.args.cut c.args.rows.now in
    grind (arith, common_steps)
