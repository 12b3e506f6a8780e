use Rattle.std.proofs.Common.{◌≡◌, arith, rules}
use Rattle.std.proofs.lemmas.Grind.{common_steps}
use Rattle.award.specs.Rows.{counted}
use Rattle.award.proofs.hand_out.serve.Goals as goal

pub loop-i-preserved : goal.loop-i-preserved
loop-i-preserved g c =
    let no_worse = g.Q.Quote.no_worse in
    let h : c.lots_where.result ≡ counted (λ q. no_worse q c.args.limit) c.index-rows-i.result = c.lots_where.ensures (λ q. no_worse q c.args.limit) (λ q b k. search rules) in
    grind (arith, common_steps)
