use Rattle.std.proofs.Common.{◌≡◌, ◌++◌, take, drop}
use Rattle.award.specs.Rows.{given_to}
use Rattle.award.proofs.allot.allot.Given as goal

abbrev pub invariant-loop-i : goal.invariant-loop-i
invariant-loop-i g l =
    (take l.i l.rows ++ given_to (drop l.i l.initial.rows) (drop l.i l.lots) ≡ given_to l.initial.rows l.lots) × (drop l.i l.rows ≡ drop l.i l.initial.rows)
