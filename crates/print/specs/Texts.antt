-- Texts one after another.
use Rattle.std.specs.Prelude.{ℕ, List}
use Rattle.std.specs.List.{flat_map}

-- The texts of all items, in their order.
abbrev pub texts : {X : Type 0} → (X → List ℕ) → List X → List ℕ
texts text xs = flat_map text xs
