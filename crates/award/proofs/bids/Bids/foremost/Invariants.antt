use Rattle.std.proofs.Common.{◌≡◌, Bool, List, ◌++◌}
use Rattle.award.specs.declared.row.Row.{Row}
use Rattle.award.specs.Award.{foremost}
use Rattle.award.specs.Calls.{IsOrder, IsTest}
use Rattle.award.specs.Rows.{standing}
use Rattle.award.proofs.bids.Bids.foremost.Given as goal

-- what was found is the foremost quote of the rows seen, which stand after those that are left
abbrev pub invariant-loop-row : goal.invariant-loop-row
invariant-loop-row g l =
    (order : _ → _ → Bool) (test : _ → Bool) → IsOrder (λ p q b. g.B.Fn.post l.before (p, (q, tt)) b) order → IsTest (λ q b. g.T.Fn.post l.such (q, tt) b) test
    → (seen : List (Row _)) × (l.self.rows.now ≡ l.row-iterator.iter.rest.now ++ seen) × (l.found ≡ foremost order test (standing seen))
