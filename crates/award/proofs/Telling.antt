-- The allotments in the rows, for whoever tells them: none is lost.
use Rattle.std.proofs.Common.{◌≡◌, ℕ, Bool, true, false, cond, List, [], ◌∷◌, map, length, sum, refl, ap, arith}
use Rattle.std.proofs.lemmas.List.Sums.{sum_by-cons}
use Rattle.award.specs.declared.row.Row.{Row}
use Rattle.award.specs.Award.{next, later}
use Rattle.award.specs.Rows.{bid_in, standing, by_row, given_to}

module _ {Q : Type 0} where
  -- told by row, the allotments add up to what they do
  pub by_row_sum : (rows : List (Row Q)) (xs : List ℕ) → length xs ≡ length (standing rows) → sum (by_row rows xs) ≡ sum xs
  by_row_sum [] [] h = refl
  by_row_sum [] (x ∷ xs) h = absurd (let z : ⊥ = omega arith in z)
  by_row_sum (r ∷ rows) xs h = go r.standing xs h (λ ys k. by_row_sum rows ys k)
    where
      go : (s : Bool) (xs : List ℕ) → length xs ≡ length (cond s (bid_in r ∷ standing rows) (standing rows))
          → ((ys : List ℕ) → length ys ≡ length (standing rows) → sum (by_row rows ys) ≡ sum ys)
          → sum (cond s (next xs ∷ by_row rows (later xs)) (0 ∷ by_row rows xs)) ≡ sum xs
      go true [] h ih = absurd (let z : ⊥ = omega arith in z)
      go true (x ∷ xs) h ih =
          let e = ih xs (omega arith) in
          omega (arith, e, sum_by-cons (λ (y : ℕ). y) x (by_row rows xs), sum_by-cons (λ (y : ℕ). y) x xs)
      go false xs h ih =
          let e = ih xs h in
          omega (arith, e, sum_by-cons (λ (y : ℕ). y) 0 (by_row rows xs))

  -- rows that were given a list of allotments have it
  pub given_allotted : (rows : List (Row Q)) (xs : List ℕ) → length xs ≡ length rows → map (λ r. r.allotted) (given_to rows xs) ≡ xs
  given_allotted [] [] h = refl
  given_allotted [] (x ∷ xs) h = absurd (let z : ⊥ = omega arith in z)
  given_allotted (r ∷ rows) [] h = absurd (let z : ⊥ = omega arith in z)
  given_allotted (r ∷ rows) (x ∷ xs) h = ap (λ ys. x ∷ ys) (given_allotted rows xs (omega arith))
