-- The demands at a cut-off and the balance suit a sharing rule.
use Rattle.std.proofs.Common.{◌≡◌, ℕ, ◌+◌, ◌≤◌, Bool, true, false, cond, not, ◌&&◌, leb, List, [], ◌∷◌, map, length, sum, filter, refl, arith}
use Rattle.std.specs.List.{AllByRecursion as All}
use Rattle.std.proofs.lemmas.List.{length-map}
use Rattle.std.proofs.lemmas.List.Sums.{sum_by-cons, length-filter, count_by-le-length}
use Rattle.std.proofs.lemmas.Bool.{and_from, le-leb}
use Rattle.terms.specs.Sharing.{most_lots, most_demands, demand_fits, demands_fit, lots_fit, few}
use Rattle.award.specs.Award.{Bid, asked, better, same, demands_at, balance}

module _ {Q : Type 0} (no_worse : Q → Q → Bool) (cut : Q) where
  abbrev at_cut : Bid Q → Bool
  at_cut b = same no_worse b.quote cut

  pub demands_few : (bids : List (Bid Q)) → length (demands_at no_worse cut bids) ≤ length bids
  demands_few bids =
      omega (arith, length-map (filter at_cut bids) (λ (b : Bid Q). b.lots), length-filter at_cut bids, count_by-le-length at_cut bids)

  demands_all_fit : (bids : List (Bid Q)) → All (λ b. demand_fits b.lots ≡ true) bids → demands_fit (demands_at no_worse cut bids) ≡ true
  demands_all_fit [] h = refl
  demands_all_fit (b ∷ bids) h = go (at_cut b) (demands_all_fit bids h.1)
    where
      go : (v : Bool) → demands_fit (demands_at no_worse cut bids) ≡ true → demands_fit (map (λ a. a.lots) (cond v (b ∷ filter at_cut bids) (filter at_cut bids))) ≡ true
      go true k = and_from (demand_fits b.lots) (demands_fit (demands_at no_worse cut bids)) h.0 k
      go false k = k

  -- what is asked at the cut-off or better is asked at better quotes or at the cut-off
  pub parts : (bids : List (Bid Q)) → asked (λ q. no_worse q cut) bids ≡ asked (λ q. better no_worse q cut) bids + sum (demands_at no_worse cut bids)
  parts [] = refl
  parts (b ∷ bids) =
      go (no_worse b.quote cut) (no_worse cut b.quote) (parts bids)
      (sum_by-cons (λ (a : Bid Q). cond (no_worse a.quote cut) a.lots 0) b bids) (sum_by-cons (λ (a : Bid Q). cond (better no_worse a.quote cut) a.lots 0) b bids)
    where
      go : (u v : Bool) → asked (λ q. no_worse q cut) bids ≡ asked (λ q. better no_worse q cut) bids + sum (demands_at no_worse cut bids)
          → asked (λ q. no_worse q cut) (b ∷ bids) ≡ cond u b.lots 0 + asked (λ q. no_worse q cut) bids
          → asked (λ q. better no_worse q cut) (b ∷ bids) ≡ cond (u && not v) b.lots 0 + asked (λ q. better no_worse q cut) bids
          → asked (λ q. no_worse q cut) (b ∷ bids)
          ≡ asked (λ q. better no_worse q cut) (b ∷ bids) + sum (map (λ a. a.lots) (cond (u && v) (b ∷ filter at_cut bids) (filter at_cut bids)))
      go true true ih e f = omega (arith, sum_by-cons (λ (x : ℕ). x) b.lots (demands_at no_worse cut bids))
      go true false ih e f = omega arith
      go false v ih e f = omega arith

  pub divisible : (offer : ℕ) (bids : List (Bid Q)) → All (λ b. demand_fits b.lots ≡ true) bids → offer ≤ most_lots → offer ≤ asked (λ q. no_worse q cut) bids
      → lots_fit (demands_at no_worse cut bids) (balance no_worse offer cut bids) ≡ true
  divisible offer bids fit small enough =
      let s = balance no_worse offer cut bids in
      let ds = demands_at no_worse cut bids in
      and_from (demands_fit ds) (leb s (sum ds) && leb s most_lots) (demands_all_fit bids fit)
      (and_from (leb s (sum ds)) (leb s most_lots) (le-leb s (sum ds) (omega (arith, parts bids))) (le-leb s most_lots (omega arith)))

  pub few_demands : (bids : List (Bid Q)) → length bids ≤ most_demands → few (demands_at no_worse cut bids) ≡ true
  few_demands bids h = le-leb (length (demands_at no_worse cut bids)) most_demands (omega (arith, demands_few bids))
