-- Standing bids, what they are awarded by, and the words of the rules.
use Rattle.std.specs.Prelude.{ℕ, Bool, cond, List, [], ◌∷◌, Some, None, sum_by, Option}

-- a standing bid; bids are listed in the order of their arrival
pub record Bid (Q : Type 0) : Type 0 where
  pub number : ℕ
  pub house : ℕ
  pub quote : Q
  pub lots : ℕ

-- what an award goes by, beside the limit
pub record Terms : Type 0 where
  -- the lots on offer
  pub offer : ℕ
  -- the least number of standing bids
  pub least_number : ℕ
  -- the fewest lots that may be placed
  pub least_placement : ℕ

-- the lots that the bids at such quotes ask for, summed bid by bid
abbrev pub asked : {Q : Type 0} → (Q → Bool) → List (Bid Q) → ℕ
asked such bids = sum_by (λ b. cond (such b.quote) b.lots 0) bids

-- of a quote and another that may be absent, the one that comes before the other
abbrev pub earlier : {Q : Type 0} → (Q → Q → Bool) → Q → Option Q → Q
earlier before q None = q
earlier before q (Some r) = cond (before q r) q r

-- of the bids' quotes that are such, the one that comes before all others; none where no quote is such
abbrev pub foremost : {Q : Type 0} → (Q → Q → Bool) → (Q → Bool) → List (Bid Q) → Option Q
foremost before such [] = None
foremost before such (b ∷ bids) =
    cond (such b.quote) (Some (earlier before b.quote (foremost before such bids))) (foremost before such bids)

-- the next of a list of lots, and those after it
abbrev pub next : List ℕ → ℕ
next [] = 0
next (x ∷ xs) = x

abbrev pub later : List ℕ → List ℕ
later [] = []
later (x ∷ xs) = xs
