use Rattle.std.proofs.Common.{◌+◌, ◌-◌, ◌<◌, ◌≤◌}
use Rattle.terms.specs.Sharing.{most_lots}
use Rattle.terms.specs.ProRata.{first_share, room_below}
use Rattle.terms.proofs.pro_rata.Division.threshold.Given as goal

abbrev pub invariant-loop-high : goal.invariant-loop-high
invariant-loop-high l =
    (l.low < l.high) × (l.high ≤ most_lots + 1)
    × (room_below (first_share l.self.balance l.self.total) l.low l.self.demands.now ≤ l.rest)
    × (l.rest ≤ room_below (first_share l.self.balance l.self.total) l.high l.self.demands.now)

abbrev pub decreases-loop-high : goal.decreases-loop-high
decreases-loop-high l = l.high - l.low
