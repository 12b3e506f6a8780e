-- What handing out starts from.
use Rattle.std.specs.Prelude.{◌≡◌, ℕ, Bool, true, List}
use Rattle.terms.specs.Sharing.{lots_fit, few}
use Rattle.award.specs.declared.reckoning.Reckoning.{Reckoning}
use Rattle.award.specs.declared.reckoning.Reckoning.TheVariants.{Void, Everyone, Divided}
use Rattle.award.specs.Award.{Bid, demands_at}

-- demands and a balance that no sharing rule refuses, but for its table
pub record Divisible (ds : List ℕ) (s : ℕ) : Type 0 where
  pub fit : lots_fit ds s ≡ true
  pub few_enough : few ds ≡ true

-- what was reckoned can be handed out: where a balance is to be divided, it and the demands suit a sharing rule
abbrev pub Ready : {Q : Type 0} → (Q → Q → Bool) → List (Bid Q) → Reckoning Q → Type 0
Ready no_worse bids Void = Unit {0}
Ready no_worse bids (Everyone cut) = Unit {0}
Ready no_worse bids (Divided cut left) = Divisible (demands_at no_worse cut bids) left
