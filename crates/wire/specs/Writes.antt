-- What a call that writes at the front of a lent space does.
use Rattle.std.specs.Prelude.{◌≡◌, ℕ, ◌<◌, ◌≤◌, List, ◌++◌, length, drop, Ok, Err, Result}

-- The text stands at the front, its count is told and the rest is left; or the space is too short and left as it was.
abbrev pub Writes : {E : Type 0} → List ℕ → List ℕ → List ℕ → Result ℕ E → Type 0
Writes text before after (Ok n) = (n ≡ length text) × (n ≤ length before) × (after ≡ text ++ drop n before)
Writes text before after (Err e) = (length before < length text) × (after ≡ before)
