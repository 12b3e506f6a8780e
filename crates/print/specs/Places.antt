-- Text laid at a place in a space.
use Rattle.std.specs.Prelude.{◌≡◌, ℕ, ◌+◌, ◌≤◌, List, ◌++◌, length, take, drop}
use Rattle.print.specs.declared.cursor.Cursor.{Cursor}

-- The text stands from the place on; before it and after it is what was there.
abbrev pub laid : ℕ → List ℕ → List ℕ → List ℕ
laid at text before = take at before ++ (text ++ drop (at + length text) before)

-- The text is laid at the place, which goes on to the end of it; the space is still the same.
pub record Lays (text : List ℕ) (before after : Cursor) : Type 0 where
  pub fits : before.at + length text ≤ length before.space.now
  pub at : after.at ≡ before.at + length text
  pub space : after.space.now ≡ laid before.at text before.space.now
  pub same : after.space.ghost_name ≡ before.space.ghost_name
