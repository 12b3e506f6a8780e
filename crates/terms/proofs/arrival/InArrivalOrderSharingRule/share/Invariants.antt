use Rattle.std.proofs.Common.{drop}
use Rattle.terms.specs.Arrival.{in_arrival_order}
use Rattle.terms.proofs.Filling.{Filling}
use Rattle.terms.proofs.arrival.InArrivalOrderSharingRule.share.Given as goal

abbrev pub invariant-loop-i : goal.invariant-loop-i
invariant-loop-i l = Filling l.i l.shares l.initial.shares (in_arrival_order (drop l.i l.demands) l.left) (in_arrival_order l.demands l.balance)
