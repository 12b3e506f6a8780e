-- What holds of every award: no other way to give out the lots does better.
use Rattle.std.specs.Prelude.{◌≡◌, ℕ, ◌<◌, ◌≤◌, min, Bool, true, false, cond, ◌≢◌, ◌⊎◌, ◌↔◌, List, [], ◌∷◌, length, Some, None, sum_by, sum, Option, ◌==◌}
use Rattle.std.specs.List.{AllByRecursion}
use Rattle.terms.specs.Sharing.{most_lots, most_demands, demand_fits}
use Rattle.award.specs.Award.{Bid, Terms, next, later, demand, cut_off, allotments}

-- it is so of some element
abbrev pub SomeIs : {X : Type 0} → (X → Type 0) → List X → Type 0
SomeIs P [] = ⊥
SomeIs P (x ∷ xs) = P x ⊎ SomeIs P xs

-- no two bids have the same number
abbrev pub Apart : {Q : Type 0} → List (Bid Q) → Type 0
Apart [] = Unit {0}
Apart (b ∷ bids) = AllByRecursion (λ a. b.number ≢ a.number) bids × Apart bids

-- the offers and bids that this is said of
pub record Sound {Q : Type 0} (t : Terms) (bids : List (Bid Q)) : Type 0 where
  -- an offer of at most 1,000,000,000 lots, of which one at least is to be placed
  pub offer : t.offer ≤ most_lots
  pub least : 1 ≤ t.least_placement
  -- at most 4,096 bids, each of 1 to 1,000,000,000 lots and with a number of its own
  pub few : length bids ≤ most_demands
  pub lots : AllByRecursion (λ b. demand_fits b.lots ≡ true) bids
  pub apart : Apart bids

-- the lots of one number, where a list has the lots of each bid; other numbers get nothing
abbrev pub lots_of : {Q : Type 0} → List (Bid Q) → List ℕ → ℕ → ℕ
lots_of [] xs n = 0
lots_of (b ∷ bids) xs n = cond (b.number == n) (next xs) (lots_of bids (later xs) n)

-- An act that is void: nobody gets a lot.
pub record Voided (given : ℕ → ℕ) (placed : ℕ) : Type 0 where
  pub no_lot : (n : ℕ) → given n ≡ 0
  pub nothing : placed ≡ 0

-- What the lots x come to, told by bid number: all together,
abbrev pub reached : {Q : Type 0} → List (Bid Q) → (ℕ → ℕ) → ℕ
reached bids x = sum_by (λ b. x b.number) bids

module _ {Q : Type 0} (no_worse : Q → Q → Bool) where
  -- and placed at the quote q or better.
  abbrev pub placed_at : Q → List (Bid Q) → (ℕ → ℕ) → ℕ
  placed_at q bids x = sum_by (λ b. cond (no_worse b.quote q) (x b.number) 0) bids

  -- A rival: any way to give out the lots, told by bid number,
  pub record Rival (t : Terms) (limit : Q) (bids : List (Bid Q)) (x : ℕ → ℕ) : Type 0 where
    -- that gives no bid more than it asks for,
    pub own : AllByRecursion (λ b. x b.number ≤ b.lots) bids
    -- nothing to a bid past the limit,
    pub past : AllByRecursion (λ b. no_worse b.quote limit ≡ false → x b.number ≡ 0) bids
    -- and no more than the offer in all.
    pub in_all : reached bids x ≤ t.offer

  -- The grounds for a void act: too few bids stand, or no rival reaches the least placement.
  abbrev pub VoidGround : Terms → Q → List (Bid Q) → Type 0
  VoidGround t limit bids =
      (length bids < t.least_number) ⊎ ((x : ℕ → ℕ) → Rival t limit bids x → reached bids x < t.least_placement)

  -- An act with the cut-off `cut`:
  pub record Awarded (t : Terms) (limit : Q) (bids : List (Bid Q)) (given : ℕ → ℕ) (placed : ℕ) (cut : Q) : Type 0 where
    -- the award is itself a rival,
    pub rival : Rival t limit bids given
    -- and at each quote of the kind it places at that quote or better at least as many lots as any rival;
    pub best : (q : Q) (x : ℕ → ℕ) → Rival t limit bids x → placed_at q bids x ≤ placed_at q bids given
    -- the lots placed are those given to the bids, and are the lesser of the offer and the demand;
    pub told : reached bids given ≡ placed
    pub lesser : placed ≡ min t.offer (demand no_worse limit bids)
    -- every bid that received lots is no worse than the cut-off, and one at the cut-off received lots.
    pub no_worse_served : AllByRecursion (λ b. 1 ≤ given b.number → no_worse b.quote cut ≡ true) bids
    pub cut_served : SomeIs (λ b. (b.quote ≡ cut) × (1 ≤ given b.number)) bids

  -- An act: the lots given, by bid number, the lots placed, and the cut-off, which is absent exactly on the grounds for a void act.
  pub record Act (t : Terms) (limit : Q) (bids : List (Bid Q)) (given : ℕ → ℕ) (placed : ℕ) (cut : Option Q) : Type 0 where
    pub void_exactly : (cut ≡ None) ↔ VoidGround t limit bids
    pub voided : cut ≡ None → Voided given placed
    pub awarded : (c : Q) → cut ≡ Some c → Awarded t limit bids given placed c

-- The award is such an act, whatever is offered, whatever the limit and whichever bids stand.
abbrev pub CannotBeBettered : {Q : Type 0} → (Q → Q → Bool) → (List ℕ → ℕ → List ℕ) → Type 0
CannotBeBettered {Q} no_worse share =
    (t : Terms) (limit : Q) (bids : List (Bid Q)) → Sound t bids
    → Act no_worse t limit bids (lots_of bids (allotments no_worse share t limit bids)) (sum (allotments no_worse share t limit bids)) (cut_off no_worse t limit bids)
