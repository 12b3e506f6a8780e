-- Where the row of a bid is found, and how rows are moved.
use Rattle.std.specs.Prelude.{ℕ, suc, cond, List, [], ◌∷◌, ◌++◌, take, drop, Some, None, Option}
use Rattle.std.specs.Option.{option_map}
use Rattle.std.specs.List.{remove}
use Rattle.award.specs.declared.row.Row.{Row}
use Rattle.book.specs.Sheets.{Sheet}
use Rattle.book.specs.Steps.{stands_as}

-- the place of the row whose bid stands under a number, counted from 0
abbrev pub place_of : {Q : Type 0} → ℕ → List (Row Q) → Option ℕ
place_of n [] = None
place_of n (r ∷ rows) = cond (stands_as n r) (Some 0) (option_map suc (place_of n rows))

-- the rows, with those behind a place moved up by one as far as another place
abbrev pub closing : {X : Type 0} → List X → ℕ → ℕ → List X
closing rows at k = take k (remove rows at) ++ drop k rows

-- a sheet with other rows
abbrev pub on_rows : {Q : Type 0} → Sheet Q → List (Row Q) → Sheet Q
on_rows s rows = record { notice = s.notice; state = s.state; used = s.used; arrivals = s.arrivals; last = s.last; rows = rows }
