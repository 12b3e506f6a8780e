use Rattle.std.proofs.Common.{◌≡◌, arith, rules}
use Rattle.std.proofs.lemmas.Grind.{common_steps}
use Rattle.award.specs.Award.{better}
use Rattle.award.specs.Rows.{counted}
use Rattle.award.proofs.Handing.{share_taken}
use Rattle.award.proofs.hand_out.deal.Goals as goal
use Rattle.award.proofs.hand_out.deal.Goals.{then-stands_at, else-stands_at}

pub loop-i-preserved : goal.loop-i-preserved
loop-i-preserved g c =
    let no_worse = g.Q.Quote.no_worse in
    elim c.if-stands_at.branch [
      | then-stands_at w ↦ (
          let step = share_taken c.loop-i.left w.next.new.self w.next.result w.next.ensures.steps in
          grind (arith, common_steps)
          )
      | else-stands_at w ↦ (
          let h : w.lots_where.result ≡ counted (λ q. better no_worse q c.args.cut) c.index-rows-i.result = w.lots_where.ensures (λ q. better no_worse q c.args.cut) (λ q b k. search rules) in
          grind (arith, common_steps)
          )
    ]
