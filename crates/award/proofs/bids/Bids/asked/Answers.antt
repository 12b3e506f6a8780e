use Rattle.std.proofs.Common.{arith}
use Rattle.std.proofs.lemmas.Grind.{common_steps}
use Rattle.award.proofs.bids.Bids.asked.Goals as goal

pub loop-i-preserved : goal.loop-i-preserved
loop-i-preserved g c = (
  omega arith,
  λ test h.
      let e = c.lots_where.ensures test h in
      let inv = c.loop-i.invariant.1 test h in
      grind (arith, common_steps),
)
