use Rattle.std.proofs.Common.{◌≡◌, Bool, ◌+◌, ◌*◌, ◌^◌, ◌≤◌, drop}
use Rattle.award.specs.Award.{asked}
use Rattle.award.specs.Calls.{IsTest}
use Rattle.award.specs.Rows.{standing}
use Rattle.award.proofs.bids.Bids.asked.Given as goal

abbrev pub invariant-loop-i : goal.invariant-loop-i
invariant-loop-i g l =
    let rows = l.self.rows.now in
    (l.total ≤ 2 ^ 32 * l.i)
    × ((test : _ → Bool) → IsTest (λ q b. g.T.Fn.post l.such (q, tt) b) test → l.total + asked test (standing (drop l.i rows)) ≡ asked test (standing rows))
