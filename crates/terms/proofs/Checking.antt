-- Lemmas for the judging of demands and a balance.
use Rattle.std.proofs.Common.{◌≡◌, ℕ, ◌-◌, ◌≤◌, false, eqb, List, [], ◌∷◌, length, None, sum, arith}
use Rattle.std.specs.List.{fold}
use Rattle.std.proofs.lemmas.List.Sums.{sum_by-cons}
use Rattle.std.proofs.lemmas.Bool.Decides.{nat_tests}
use Rattle.terms.specs.Grounds.{first}
use Rattle.terms.specs.Sharing.{share_grounds}
use Rattle.terms.specs.Dealing.{Divisible}

-- what is taken from a balance, one demand after the other
pub taken_one_by_one : (s : ℕ) (ds : List ℕ) → fold (λ left d. left - d) s ds ≡ s - sum ds
taken_one_by_one s [] = omega arith
taken_one_by_one s (d ∷ ds) = rw (taken_one_by_one (s - d) ds, sum_by-cons (λ x. x) d ds) (omega arith)

-- what a call that was not refused may build on
module _ (ds : List ℕ) (s places : ℕ) (e : None ≡ first (share_grounds ds s places)) where
  pub placed : length ds ≤ places
  placed = grind (arith, nat_tests)

  pub divisible : false ≡ eqb (length ds) 0 → Divisible ds s
  divisible some = record { lots = grind (arith, nat_tests); counted = grind (arith, nat_tests); some = grind (arith, nat_tests) }
