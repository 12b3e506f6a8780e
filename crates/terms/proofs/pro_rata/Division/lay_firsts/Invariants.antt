use Rattle.std.proofs.Common.{map, drop}
use Rattle.terms.specs.ProRata.{first_share}
use Rattle.terms.proofs.Filling.{Filling}
use Rattle.terms.proofs.pro_rata.Division.lay_firsts.Given as goal

abbrev pub invariant-loop-at : goal.invariant-loop-at
invariant-loop-at l =
    Filling l.at l.firsts l.initial.firsts (map (first_share l.self.balance l.self.total) (drop l.at l.self.demands.now))
    (map (first_share l.self.balance l.self.total) l.self.demands.now)
