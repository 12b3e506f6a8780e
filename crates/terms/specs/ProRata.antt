-- Sharing pro rata: first shares in proportion, then the remainder by the smallest first share.
use Rattle.std.specs.Prelude.{◌≡◌, ℕ, ◌+◌, ◌-◌, ◌*◌, ◌/◌, ◌<◌, ◌≤◌, min, true, cond, ◌⊎◌, List, [], ◌∷◌, ◌++◌, map, length, sum_by, sum, ◌==◌, nat_lt, slice_index}
use Rattle.terms.specs.Sharing.{lots_fit}

-- the first share of a demand d of the balance s, where the demands together are `total`: the product before the division, rounded down
abbrev pub first_share : ℕ → ℕ → ℕ → ℕ
first_share s total d = d * s / total

-- the first share of each demand
abbrev pub first_shares : List ℕ → ℕ → List ℕ
first_shares ds s = map (first_share s (sum ds)) ds

-- what the demands with a first share below v can still take, by first shares f
abbrev pub room_below : (ℕ → ℕ) → ℕ → List ℕ → ℕ
room_below f v ds = sum_by (λ d. cond (nat_lt (f d) v) (d - f d) 0) ds

-- what the demands with the first share v can still take
abbrev pub room_at : (ℕ → ℕ) → ℕ → List ℕ → ℕ
room_at f v ds = sum_by (λ d. cond (f d == v) (d - f d) 0) ds

-- The shares of the demands `ds` that come after `before` among `all`. Of the remainder r, a demand gets what those served before it
-- leave (those with a smaller first share, and those with its own that came earlier), as far as it can take it.
abbrev pub topped_up : (ℕ → ℕ) → List ℕ → ℕ → List ℕ → List ℕ → List ℕ
topped_up f all r before [] = []
topped_up f all r before (d ∷ ds) =
    (f d + min (d - f d) (r - (room_below f (f d) all + room_at f (f d) before))) ∷ topped_up f all r (before ++ d ∷ []) ds

-- the shares: the remainder is the balance less the first shares
abbrev pub pro_rata : List ℕ → ℕ → List ℕ
pro_rata ds s = topped_up (first_share s (sum ds)) ds (s - sum_by (first_share s (sum ds)) ds) [] ds

-- Who is served first, in the words of the rule.

-- the first share of the demand at place i, from 0
abbrev pub first_at : List ℕ → ℕ → ℕ → ℕ
first_at ds s i = first_share s (sum ds) (slice_index ds i)

-- i is served before j: a smaller first share, or the same and an earlier arrival
abbrev pub ServedBefore : List ℕ → ℕ → ℕ → ℕ → Type 0
ServedBefore ds s i j = (first_at ds s i < first_at ds s j) ⊎ ((first_at ds s i ≡ first_at ds s j) × (i < j))

-- what holds of the demands at any two places i and j
pub record InTurn (ds : List ℕ) (s : ℕ) (shares : List ℕ) (i j : ℕ) : Type 0 where
  -- no share is below the first share
  pub at_least_first : first_at ds s i ≤ slice_index shares i
  -- where j got more than its first share, each that is served before it got its whole demand
  pub whole_before : ServedBefore ds s i j → first_at ds s j < slice_index shares j → slice_index shares i ≡ slice_index ds i

abbrev pub ServedInOrder : Type 0
ServedInOrder = (ds : List ℕ) (s i j : ℕ) → lots_fit ds s ≡ true → i < length ds → j < length ds → InTurn ds s (pro_rata ds s) i j
