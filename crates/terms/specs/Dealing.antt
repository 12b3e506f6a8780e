-- How pro rata is computed: by the first share at which the remainder runs out, its threshold.
use Rattle.std.specs.Prelude.{◌≡◌, ℕ, ◌+◌, ◌-◌, ◌<◌, ◌≤◌, min, true, cond, List, [], ◌∷◌, length, sum, ◌==◌, nat_lt}
use Rattle.terms.specs.Sharing.{lots_fit, most_demands}
use Rattle.terms.specs.ProRata.{room_below}

-- below the threshold v a demand gets all, at it what is left as far as it can take it, above it its first share
abbrev pub dealt : (ℕ → ℕ) → ℕ → ℕ → List ℕ → List ℕ
dealt f v left [] = []
dealt f v left (d ∷ ds) =
    (cond (nat_lt (f d) v) d (f d + cond (f d == v) (min (d - f d) left) 0))
    ∷ dealt f v (left - cond (f d == v) (min (d - f d) left) 0) ds

-- v is a threshold of the remainder r
pub record Threshold (f : ℕ → ℕ) (all : List ℕ) (r v : ℕ) : Type 0 where
  pub below : room_below f v all ≤ r
  pub above : r ≤ room_below f (v + 1) all

-- some demands and a balance that nothing is against
pub record Divisible (ds : List ℕ) (s : ℕ) : Type 0 where
  pub lots : lots_fit ds s ≡ true
  pub counted : length ds ≤ most_demands
  pub some : 0 < length ds

-- what the passes over the demands start from: their sum, which is some lots and covers the balance
pub record Ready (ds : List ℕ) (s total : ℕ) : Type 0 where
  pub lots : lots_fit ds s ≡ true
  pub counted : length ds ≤ most_demands
  pub is : total ≡ sum ds
  pub some : 0 < total
  pub covers : s ≤ total
