use Rattle.std.proofs.Common.{arith}
use Rattle.terms.specs.ProRata.{first_share}
use Rattle.terms.specs.Rooms.{below_none}
use Rattle.terms.proofs.pro_rata.Division.threshold.Goals as goal

pub loop-high-init : goal.loop-high-init
loop-high-init c =
    let d = c.args.self.now in
    let none = below_none (first_share d.balance d.total) d.demands.now in
    (omega arith, omega arith, omega arith, c.requires)
