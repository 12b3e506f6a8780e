use Rattle.std.proofs.Common.{drop}
use Rattle.terms.proofs.Filling.{Filling}
use Rattle.award.specs.Award.{in_full}
use Rattle.award.proofs.Handing.{rows_by}
use Rattle.award.proofs.hand_out.serve.Given as goal

abbrev pub invariant-loop-i : goal.invariant-loop-i
invariant-loop-i g l =
    let given = rows_by (in_full g.Q.Quote.no_worse l.limit) in
    Filling l.i l.lots l.initial.lots (given (drop l.i l.rows)) (given l.rows)
