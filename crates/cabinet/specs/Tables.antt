-- Tables that are filled from the front, and spaces that are never too short.
use Rattle.std.specs.Prelude.{◌≡◌, ℕ, ◌≤◌, true, List, [], ◌∷◌, is_ok, Some, None, Option, Result}

-- the list of what may be there
abbrev pub as_list : {A : Type 0} → Option A → List A
as_list None = []
as_list (Some x) = x ∷ []

-- the bytes of the longest print: 8,192 refusals and an act of 4,096 rows
abbrev pub most_space : ℕ
most_space = 696_396

-- a space with so much room is never too short for an answer
abbrev pub Suffices : {E : Type 0} → ℕ → Result ℕ E → Type 0
Suffices room r = most_space ≤ room → is_ok r ≡ true
