-- Sharing rules: which demands and balances they take, what a call does to its table, and the law that each rule shows.
use Rattle.std.specs.Prelude.{◌≡◌, ℕ, ◌≤◌, Bool, not, ◌&&◌, List, [], ◌∷◌, ◌++◌, length, drop, Some, None, sum, Option, nat_le, nat_lt}
use Rattle.std.specs.List.{AllZip, list_all}
use Rattle.terms.specs.declared.fault.ShareFault.{ShareFault}
use Rattle.terms.specs.declared.fault.ShareFault.TheVariants.{Lots, ShortTable, ManyDemands}
use Rattle.terms.specs.Tests.{between}
use Rattle.terms.specs.Grounds.{Ground, when}

-- the most lots that a demand or a balance may have
abbrev pub most_lots : ℕ
most_lots = 1_000_000_000

-- the most demands
abbrev pub most_demands : ℕ
most_demands = 4_096

-- a demand is from 1 to the most lots
abbrev pub demand_fits : ℕ → Bool
demand_fits d = between 1 d most_lots

-- each demand is
abbrev pub demands_fit : List ℕ → Bool
demands_fit = list_all demand_fits

-- the demands fit, and the balance is at most their sum and at most the most lots
abbrev pub lots_fit : List ℕ → ℕ → Bool
lots_fit ds s = demands_fit ds && (nat_le s (sum ds) && nat_le s most_lots)

-- there are no more demands than a rule takes
abbrev pub few : List ℕ → Bool
few ds = nat_le (length ds) most_demands

-- the grounds against the demands ds, the balance s and a table of so many places
abbrev pub share_grounds : List ℕ → ℕ → ℕ → List (Ground ShareFault)
share_grounds ds s places =
    when (not (lots_fit ds s)) Lots
    ∷ when (nat_lt places (length ds)) ShortTable
    ∷ when (not (few ds)) ManyDemands
    ∷ []

-- a list at the front of a table, whose other places are as they were
abbrev pub laid : List ℕ → List ℕ → List ℕ
laid xs table = xs ++ drop (length xs) table

-- a table after a call: filled from the front, or as it was where the call was refused
abbrev pub filled : {F : Type 0} → Option F → List ℕ → List ℕ → List ℕ
filled None xs table = laid xs table
filled (Some f) xs table = table

-- What each rule shows of its shares, where the lots fit and the demands are few.
pub record Fair (ds : List ℕ) (s : ℕ) (shares : List ℕ) : Type 0 where
  -- one share for each demand
  pub one_each : length shares ≡ length ds
  -- none larger than its demand
  pub within : AllZip ◌≤◌ shares ds
  -- the shares add up to the balance
  pub whole : sum shares ≡ s
