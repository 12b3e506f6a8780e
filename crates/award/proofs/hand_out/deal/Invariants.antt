use Rattle.std.proofs.Common.{drop}
use Rattle.terms.proofs.Filling.{Filling}
use Rattle.award.specs.Award.{dealt}
use Rattle.award.proofs.Handing.{rows_by}
use Rattle.award.proofs.hand_out.deal.Given as goal

abbrev pub invariant-loop-i : goal.invariant-loop-i
invariant-loop-i g l =
    let no_worse = g.Q.Quote.no_worse in
    Filling l.i l.lots l.initial.lots (rows_by (λ bids. dealt no_worse l.cut bids l.left.rest.now) (drop l.i l.rows)) (rows_by (λ bids. dealt no_worse l.cut bids l.fn.shares) l.rows)
