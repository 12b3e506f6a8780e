use Rattle.std.proofs.Common.{◌≡◌, ◌+◌, ◌≤◌, length, drop}
use Rattle.award.specs.Rows.{standing}
use Rattle.award.proofs.demand.standing_count.Given as goal

-- those counted, and those among the rows that are left
abbrev pub invariant-loop-row : goal.invariant-loop-row
invariant-loop-row g l =
    (l.count ≤ l.row-index) × (l.count + length (standing (drop l.row-index l.rows)) ≡ length (standing l.rows))
