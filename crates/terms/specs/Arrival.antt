-- Sharing in arrival order.
use Rattle.std.specs.Prelude.{ℕ, ◌-◌, min, List, [], ◌∷◌}

-- each demand in turn gets the lesser of itself and what is left
abbrev pub in_arrival_order : List ℕ → ℕ → List ℕ
in_arrival_order [] left = []
in_arrival_order (d ∷ ds) left = min d left ∷ in_arrival_order ds (left - min d left)
