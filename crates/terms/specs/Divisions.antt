-- Four divisions worked by hand.
use Rattle.std.specs.Prelude.{◌≡◌, [], ◌∷◌}
use Rattle.terms.specs.Arrival.{in_arrival_order}
use Rattle.terms.specs.ProRata.{pro_rata}

pub record WorkedDivisions : Type 0 where
  pub proportional : pro_rata (50 ∷ 30 ∷ 45 ∷ []) 60 ≡ 24 ∷ 15 ∷ 21 ∷ []
  pub by_arrival : in_arrival_order (50 ∷ 30 ∷ 45 ∷ []) 60 ≡ 50 ∷ 10 ∷ 0 ∷ []
  pub equal_demands : pro_rata (1 ∷ 1 ∷ 1 ∷ []) 2 ≡ 1 ∷ 1 ∷ 0 ∷ []
  pub smallest_first : pro_rata (2 ∷ 9 ∷ 9 ∷ []) 17 ≡ 2 ∷ 8 ∷ 7 ∷ []
