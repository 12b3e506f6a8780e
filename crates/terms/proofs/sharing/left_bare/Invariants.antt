use Rattle.std.proofs.Common.{◌≡◌, ◌-◌, true, take, sum}
use Rattle.terms.specs.Sharing.{demands_fit}
use Rattle.terms.proofs.sharing.left_bare.Given as goal

-- the demands so far are in range, and taken from the balance
abbrev pub invariant-loop-d : goal.invariant-loop-d
invariant-loop-d l = (demands_fit (take l.d-index l.demands) ≡ true) × (l.bare ≡ l.balance - sum (take l.d-index l.demands))
