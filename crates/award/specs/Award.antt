-- The award: who gets how many lots, and the cut-off that every lot pays, by the rules in their order.
use Rattle.std.specs.Prelude.{ℕ, ◌-◌, min, Bool, cond, not, ◌&&◌, ◌||◌, List, [], ◌∷◌, map, length, Some, None, filter, Option, nat_le, nat_lt}
pub use Rattle.award.specs.Bids.{Bid, Terms, asked, earlier, foremost, next, later}
use Rattle.award.specs.declared.reckoning.Reckoning.{Reckoning}
use Rattle.award.specs.declared.reckoning.Reckoning.TheVariants.{Void, Everyone, Divided}

-- what is reckoned where everyone is served at this quote (without a quote there is no bid, and the act is void)
abbrev pub everyone_at : {Q : Type 0} → Option Q → Reckoning Q
everyone_at None = Void
everyone_at (Some cut) = Everyone cut

-- the cut-off that was reckoned; a void act has none
abbrev pub cut_of : {Q : Type 0} → Reckoning Q → Option Q
cut_of Void = None
cut_of (Everyone cut) = Some cut
cut_of (Divided cut left) = Some cut

-- `no_worse a b` is "the quote a is no worse than the quote b", seen from the issuer's side
module _ {Q : Type 0} (no_worse : Q → Q → Bool) where
  abbrev pub better : Q → Q → Bool
  better a b = no_worse a b && not (no_worse b a)

  abbrev pub same : Q → Q → Bool
  same a b = no_worse a b && no_worse b a

  -- 1. The demand: what the bids within the limit ask for.
  abbrev pub demand : Q → List (Bid Q) → ℕ
  demand limit bids = asked (λ q. no_worse q limit) bids

  -- 2. The act is void if fewer bids stand than the least number, past the limit or not, or if the lesser of offer and demand is below the
  -- least placement.
  abbrev pub void : Terms → Q → List (Bid Q) → Bool
  void t limit bids = nat_lt (length bids) t.least_number || nat_lt (min t.offer (demand limit bids)) t.least_placement

  -- 3. If the demand is at most the offer, each bid within the limit gets all its lots,
  abbrev pub in_full : Q → List (Bid Q) → List ℕ
  in_full limit bids = map (λ b. cond (no_worse b.quote limit) b.lots 0) bids

  -- and the cut-off is the worst quote among them.
  abbrev pub worst_within : Q → List (Bid Q) → Option Q
  worst_within limit bids = foremost (λ a b. no_worse b a) (λ q. no_worse q limit) bids

  -- 4. Otherwise the cut-off is the best quote at which the bids of that quote or better ask for at least the offer.
  abbrev pub best_reaching : ℕ → List (Bid Q) → Option Q
  best_reaching offer bids = foremost no_worse (λ q. nat_le offer (asked (λ a. no_worse a q) bids)) bids

  -- The balance is the offer less what the better bids ask for,
  abbrev pub balance : ℕ → Q → List (Bid Q) → ℕ
  balance offer cut bids = offer - asked (λ q. better q cut) bids

  -- and is divided among the bids at the cut-off.
  abbrev pub demands_at : Q → List (Bid Q) → List ℕ
  demands_at cut bids = map (λ b. b.lots) (filter (λ b. same b.quote cut) bids)

  -- Better bids get all their lots, those at the cut-off the shares in turn, all others nothing.
  abbrev pub dealt : Q → List (Bid Q) → List ℕ → List ℕ
  dealt cut [] shares = []
  dealt cut (b ∷ bids) shares =
      cond (better b.quote cut) (b.lots ∷ dealt cut bids shares)
      (cond (same b.quote cut) (next shares ∷ dealt cut bids (later shares)) (0 ∷ dealt cut bids shares))

  -- What is reckoned of the bids: 2, or 3, or 4.
  abbrev pub divided_at : ℕ → List (Bid Q) → Option Q → Reckoning Q
  divided_at offer bids None = Void
  divided_at offer bids (Some cut) = Divided cut (balance offer cut bids)

  abbrev pub reckoned : Terms → Q → List (Bid Q) → Reckoning Q
  reckoned t limit bids =
      cond (void t limit bids) Void
      (cond (nat_le (demand limit bids) t.offer) (everyone_at (worst_within limit bids)) (divided_at t.offer bids (best_reaching t.offer bids)))

  -- the cut-off
  abbrev pub cut_off : Terms → Q → List (Bid Q) → Option Q
  cut_off t limit bids = cut_of (reckoned t limit bids)

  module _ (share : List ℕ → ℕ → List ℕ) where
    -- what the sharing rule gives to the bids at the cut-off
    abbrev pub shares_of : List (Bid Q) → Reckoning Q → List ℕ
    shares_of bids Void = []
    shares_of bids (Everyone cut) = []
    shares_of bids (Divided cut left) = share (demands_at cut bids) left

    -- the lots of each bid, by what was reckoned
    abbrev pub handed_out : Q → List (Bid Q) → Reckoning Q → List ℕ
    handed_out limit bids Void = map (λ b. 0) bids
    handed_out limit bids (Everyone cut) = in_full limit bids
    handed_out limit bids (Divided cut left) = dealt cut bids (share (demands_at cut bids) left)

    -- the allotments: for each standing bid its lots
    abbrev pub allotments : Terms → Q → List (Bid Q) → List ℕ
    allotments t limit bids = handed_out limit bids (reckoned t limit bids)
