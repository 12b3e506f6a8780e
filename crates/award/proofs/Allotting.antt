-- Rows that were given their allotments so far, one row more.
use Rattle.std.proofs.Common.{◌≡◌, List, [], ◌∷◌, refl}
use Rattle.award.specs.declared.row.Row.{Row}
use Rattle.award.specs.Rows.{given_to}

module _ {Q : Type 0} where
  pub given_none : (rows : List (Row Q)) → given_to rows [] ≡ rows
  given_none [] = refl
  given_none (r ∷ rows) = refl
