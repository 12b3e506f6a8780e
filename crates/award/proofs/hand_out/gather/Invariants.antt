use Rattle.std.proofs.Common.{◌≤◌, drop}
use Rattle.terms.proofs.Filling.{Filling}
use Rattle.award.specs.Award.{demands_at}
use Rattle.award.specs.Rows.{standing}
use Rattle.award.proofs.hand_out.gather.Given as goal

abbrev pub invariant-loop-row : goal.invariant-loop-row
invariant-loop-row g l =
    let no_worse = g.Q.Quote.no_worse in
    (l.count ≤ l.row-index)
    × Filling l.count l.demands l.initial.demands (demands_at no_worse l.cut (standing (drop l.row-index l.rows))) (demands_at no_worse l.cut (standing l.rows))
