-- Rows as bids: those that stand, in the order of the table, which is that of their arrival.
use Rattle.std.specs.Prelude.{ℕ, Bool, true, false, cond, ◌&&◌, List, [], ◌∷◌}
use Rattle.terms.specs.Sharing.{demand_fits}
use Rattle.award.specs.declared.row.Row.{Row}
use Rattle.award.specs.declared.conditions.Conditions.{Conditions}
use Rattle.award.specs.Award.{Bid, Terms, next, later, reckoned, shares_of, allotments}

-- what an award goes by
abbrev pub terms_of : Conditions → Terms
terms_of c = record { offer = c.offer; least_number = c.least_number; least_placement = c.least_placement }

module _ {Q : Type 0} where
  -- a row of no bid
  abbrev pub blank_row : Q → Row Q
  blank_row q = record { number = 0; house = 0; quote = q; lots = 0; standing = false; allotted = 0 }

  -- a row for a bid that has just arrived
  abbrev pub new_row : ℕ → ℕ → Q → ℕ → Row Q
  new_row number house quote lots = record { number = number; house = house; quote = quote; lots = lots; standing = true; allotted = 0 }

  -- each row is of 1 to 1,000,000,000 lots
  abbrev pub rows_fit : List (Row Q) → Bool
  rows_fit [] = true
  rows_fit (r ∷ rows) = demand_fits r.lots && rows_fit rows

  -- the bid in a row
  abbrev pub bid_in : Row Q → Bid Q
  bid_in r = record { number = r.number; house = r.house; quote = r.quote; lots = r.lots }

  -- the standing bids
  abbrev pub standing : List (Row Q) → List (Bid Q)
  standing [] = []
  standing (r ∷ rows) = cond r.standing (bid_in r ∷ standing rows) (standing rows)

  -- the lots of a row whose bid stands at such a quote
  abbrev pub counted : (Q → Bool) → Row Q → ℕ
  counted such r = cond (r.standing && such r.quote) r.lots 0

  -- a list with the lots of each standing bid, told by row: nothing for a bid that does not stand
  abbrev pub by_row : List (Row Q) → List ℕ → List ℕ
  by_row [] xs = []
  by_row (r ∷ rows) xs = cond r.standing (next xs ∷ by_row rows (later xs)) (0 ∷ by_row rows xs)

  module _ (no_worse : Q → Q → Bool) (share : List ℕ → ℕ → List ℕ) (t : Terms) (limit : Q) where
    -- the allotment of each row
    abbrev pub lots_by_row : List (Row Q) → List ℕ
    lots_by_row rows = by_row rows (allotments no_worse share t limit (standing rows))

    -- the shares of the bids at the cut-off, where a balance is divided
    abbrev pub shares_at_cut : List (Row Q) → List ℕ
    shares_at_cut rows = shares_of no_worse share (standing rows) (reckoned no_worse t limit (standing rows))

  -- a row with this allotment, and otherwise as it was
  abbrev pub with_lots : ℕ → Row Q → Row Q
  with_lots x r = record { number = r.number; house = r.house; quote = r.quote; lots = r.lots; standing = r.standing; allotted = x }

  -- the rows with their allotments, as far as the list goes
  abbrev pub given_to : List (Row Q) → List ℕ → List (Row Q)
  given_to [] xs = []
  given_to (r ∷ rows) [] = r ∷ rows
  given_to (r ∷ rows) (x ∷ xs) = with_lots x r ∷ given_to rows xs
