use Rattle.std.proofs.Common.{drop}
use Rattle.terms.specs.ProRata.{first_share}
use Rattle.terms.specs.Dealing.{dealt}
use Rattle.terms.proofs.Filling.{Filling}
use Rattle.terms.proofs.pro_rata.Division.deal.Given as goal

abbrev pub invariant-loop-i : goal.invariant-loop-i
invariant-loop-i l =
    Filling l.i l.shares l.initial.shares (dealt (first_share l.self.balance l.self.total) l.bound l.left (drop l.i l.self.demands.now))
    (dealt (first_share l.self.balance l.self.total) l.bound l.initial.left l.self.demands.now)
