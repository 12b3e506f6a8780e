-- Books worked by hand, at rates and at prices.
use Rattle.std.specs.Prelude.{◌≡◌, ℕ, Bool, true, List, [], ◌∷◌, ℤ, pos, Some, None, Option, refl}
use Rattle.terms.specs.declared.rate.Rate.{Rate}
use Rattle.terms.specs.declared.price.Price.{Price}
use Rattle.terms.specs.Quotes.{in_range}
use Rattle.terms.specs.Rates.{rate_no_worse}
use Rattle.terms.specs.Prices.{price_no_worse}
use Rattle.terms.specs.Arrival.{in_arrival_order}
use Rattle.terms.specs.ProRata.{pro_rata}
use Rattle.terms.specs.Divisions.{WorkedDivisions}
use Rattle.award.specs.Award.{Bid, Terms, cut_off, allotments}

-- a rate and a price, by their numbers, which lie in the range
abbrev pub rate : (n : ℤ) → in_range (pos 0) (pos 9_999) n ≡ true → Rate
rate n e = record { hundredths = n; within = e }

abbrev pub price : (n : ℤ) → in_range (pos 1) (pos 1_500_000) n ≡ true → Price
price n e = record { units = n; within = e }

-- a bid of so many lots at a quote; bids are numbered as they arrive
abbrev pub bid : {Q : Type 0} → ℕ → ℕ → Q → Bid Q
bid number lots quote = record { number = number; house = number; quote = quote; lots = lots }

abbrev pub terms : ℕ → ℕ → ℕ → Terms
terms offer number placement = record { offer = offer; least_number = number; least_placement = placement }

-- by a sharing rule, the award has this cut-off, and these are the allotments of the bids
pub record ComesOut {Q : Type 0} (no_worse : Q → Q → Bool) (share : List ℕ → ℕ → List ℕ) (t : Terms) (limit : Q) (bids : List (Bid Q)) (cut : Option Q) (lots : List ℕ) : Type 0 where
  pub cut_is : cut_off no_worse t limit bids ≡ cut
  pub lots_are : allotments no_worse share t limit bids ≡ lots

-- an offer of 100 at rates, with the limit 620 and three bids: 60 lots at 600, so many at 610, and 30 at 620
abbrev pub AtRates : ℕ → Rate → List ℕ → Type 0
AtRates middle cut lots =
    ComesOut rate_no_worse pro_rata (terms 100 1 1) (rate (pos 620) refl)
    (bid 1 60 (rate (pos 600) refl) ∷ bid 2 middle (rate (pos 610) refl) ∷ bid 3 30 (rate (pos 620) refl) ∷ []) (Some cut) lots

-- an offer of 100 with a least placement of 50, at rates, with the limit 620 and two bids: 30 lots at 600, and so many at 610
abbrev pub WithLeast : ℕ → Option Rate → List ℕ → Type 0
WithLeast second cut lots =
    ComesOut rate_no_worse pro_rata (terms 100 2 50) (rate (pos 620) refl)
    (bid 1 30 (rate (pos 600) refl) ∷ bid 2 second (rate (pos 610) refl) ∷ []) cut lots

-- an offer of 100 at rates, with the limit 650 and five bids: 40 lots at 620, then 50, 30 and 45 at 640, and 80 at 660
abbrev pub DividedBy : (List ℕ → ℕ → List ℕ) → List ℕ → Type 0
DividedBy share lots =
    ComesOut rate_no_worse share (terms 100 2 50) (rate (pos 650) refl)
    (bid 1 40 (rate (pos 620) refl)
    ∷ bid 2 50 (rate (pos 640) refl)
    ∷ bid 3 30 (rate (pos 640) refl)
    ∷ bid 4 45 (rate (pos 640) refl)
    ∷ bid 5 80 (rate (pos 660) refl)
    ∷ [])
    (Some (rate (pos 640) refl)) lots

pub record WorkedBooks : Type 0 where
  -- four balances divided
  pub divisions : WorkedDivisions
  -- the bids at 610 or better meet the offer exactly: the cut-off is not the next quote
  pub met_exactly : AtRates 40 (rate (pos 610) refl) (60 ∷ 40 ∷ 0 ∷ [])
  -- one lot less at 610
  pub one_lot_short : AtRates 39 (rate (pos 620) refl) (60 ∷ 39 ∷ 1 ∷ [])
  -- one lot more at 610
  pub one_lot_over : AtRates 41 (rate (pos 610) refl) (60 ∷ 40 ∷ 0 ∷ [])
  -- an offer of 100 at prices, with the limit 980,000: 60 lots at 985,000 and 60 at 984,000
  pub at_prices :
      ComesOut price_no_worse pro_rata (terms 100 1 1) (price (pos 980_000) refl)
      (bid 1 60 (price (pos 985_000) refl) ∷ bid 2 60 (price (pos 984_000) refl) ∷ []) (Some (price (pos 984_000) refl)) (60 ∷ 40 ∷ [])
  -- two bids with a demand of 49, below the least placement of 50; and with a demand of 50
  pub below_least : WithLeast 19 None (0 ∷ 0 ∷ [])
  pub at_least : WithLeast 20 (Some (rate (pos 610) refl)) (30 ∷ 20 ∷ [])
  -- a balance of 60 divided by each rule among the bids at the cut-off
  pub shared_pro_rata : DividedBy pro_rata (40 ∷ 24 ∷ 15 ∷ 21 ∷ 0 ∷ [])
  pub shared_by_arrival : DividedBy in_arrival_order (40 ∷ 50 ∷ 10 ∷ 0 ∷ 0 ∷ [])
