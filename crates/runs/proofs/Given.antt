-- Rows with their allotments, and what is read off them.
use Rattle.std.proofs.Common.{◌≡◌, ℕ, zero, suc, ◌≤◌, Bool, true, false, cond, eqb, ◌≢◌, List, [], ◌∷◌, length, take, Some, None, sum_by, sum, Option, sym, refl, ap, ◌∙◌, subst, arith}
use Rattle.std.specs.List.{AllByRecursion as All}
use Rattle.std.proofs.lemmas.List.Sums.{sum_by-cons}
use Rattle.std.proofs.lemmas.Bool.{eqb-true}
use Rattle.award.specs.declared.row.Row.{Row}
use Rattle.award.specs.Award.{Bid, next, later}
use Rattle.award.specs.Rivals.{lots_of}
use Rattle.award.specs.Rows.{bid_in, standing, by_row, with_lots, given_to}
use Rattle.book.specs.Table.{bid_of}
use Rattle.book.specs.Told.{row_of, allotted_in}
use Rattle.runs.proofs.Bids.{lots_none}
use Rattle.runs.proofs.Rows.{RowsApart, standing_numbers, none_stands}

module _ {Q : Type 0} where
  pub length_given : (rows : List (Row Q)) (xs : List ℕ) → length (given_to rows xs) ≡ length rows
  length_given [] xs = refl
  length_given (r ∷ rows) [] = refl
  length_given (r ∷ rows) (x ∷ xs) = ap suc (length_given rows xs)

  -- the rows in use are those that have allotments
  pub given_in_use : (n : ℕ) (rows : List (Row Q)) (xs : List ℕ) → n ≤ length rows → length xs ≡ n → take n (given_to rows xs) ≡ given_to (take n rows) xs
  given_in_use zero rows xs h k = refl
  given_in_use (suc n) [] xs h k = refl
  given_in_use (suc n) (r ∷ rows) [] h k = absurd (let z : ⊥ = omega arith in z)
  given_in_use (suc n) (r ∷ rows) (x ∷ xs) h k = ap (λ rs. with_lots x r ∷ rs) (given_in_use n rows xs (omega arith) (omega arith))

  -- an allotment alters no bid and no number
  pub standing_given : (rows : List (Row Q)) (xs : List ℕ) → standing (given_to rows xs) ≡ standing rows
  standing_given [] xs = refl
  standing_given (r ∷ rows) [] = refl
  standing_given (r ∷ rows) (x ∷ xs) = ap (λ bids. cond r.standing (bid_in r ∷ bids) bids) (standing_given rows xs)

  numbers_given : (P : ℕ → Type 0) (rows : List (Row Q)) (xs : List ℕ) → All (λ r. P r.number) rows → All (λ r. P r.number) (given_to rows xs)
  numbers_given P [] xs h = tt
  numbers_given P (r ∷ rows) [] h = h
  numbers_given P (r ∷ rows) (x ∷ xs) h = (h.0, numbers_given P rows xs h.1)

  pub apart_given : (rows : List (Row Q)) (xs : List ℕ) → RowsApart rows → RowsApart (given_to rows xs)
  apart_given [] xs h = tt
  apart_given (r ∷ rows) [] h = h
  apart_given (r ∷ rows) (x ∷ xs) h = (numbers_given (λ n. r.number ≢ n) rows xs h.0, apart_given rows xs h.1)

  -- the allotment of a number, off its row
  pub allotted_is : (n : ℕ) (rows : List (Row Q)) (xs : List ℕ) → RowsApart rows → allotted_in (row_of n (given_to rows (by_row rows xs))) ≡ lots_of (standing rows) xs n
  allotted_is n [] xs h = refl
  allotted_is n (r ∷ rows) xs h = go r.standing (allotted_is n rows (later xs) h.1) (allotted_is n rows xs h.1)
    where
      stood : (v : Bool) → eqb r.number n ≡ v → (x : ℕ) (o : Option (Row Q)) (rest : ℕ) → allotted_in o ≡ rest
          → allotted_in (cond v (Some (with_lots x r)) o) ≡ cond v x rest
      stood true e x o rest k = refl
      stood false e x o rest k = k

      out : (v : Bool) → eqb r.number n ≡ v → allotted_in (row_of n (given_to rows (by_row rows xs))) ≡ lots_of (standing rows) xs n
          → allotted_in (cond v (Some (with_lots 0 r)) (row_of n (given_to rows (by_row rows xs)))) ≡ lots_of (standing rows) xs n
      out true e k =
          sym (lots_none n (standing rows) xs (standing_numbers (λ m. n ≢ m) rows (subst (λ m. All (λ a. m ≢ a.number) rows) (eqb-true r.number n e) h.0)))
      out false e k = k

      go : (s : Bool) → allotted_in (row_of n (given_to rows (by_row rows (later xs)))) ≡ lots_of (standing rows) (later xs) n
          → allotted_in (row_of n (given_to rows (by_row rows xs))) ≡ lots_of (standing rows) xs n
          → allotted_in (row_of n (given_to (r ∷ rows) (cond s (next xs ∷ by_row rows (later xs)) (0 ∷ by_row rows xs))))
          ≡ lots_of (cond s (bid_in r ∷ standing rows) (standing rows)) xs n
      go true a b = stood (eqb r.number n) refl (next xs) (row_of n (given_to rows (by_row rows (later xs)))) (lots_of (standing rows) (later xs) n) a
      go false a b = out (eqb r.number n) refl b

  -- the placed lots, off all rows
  pub placed_is : (rows : List (Row Q)) (xs : List ℕ) → length xs ≡ length (standing rows) → sum_by (λ r. r.allotted) (given_to rows (by_row rows xs)) ≡ sum xs
  placed_is [] [] h = refl
  placed_is [] (x ∷ xs) h = absurd (let z : ⊥ = omega arith in z)
  placed_is (r ∷ rows) xs h = go r.standing xs h (λ ys k. placed_is rows ys k)
    where
      go : (s : Bool) (xs : List ℕ) → length xs ≡ length (cond s (bid_in r ∷ standing rows) (standing rows))
          → ((ys : List ℕ) → length ys ≡ length (standing rows) → sum_by (λ r. r.allotted) (given_to rows (by_row rows ys)) ≡ sum ys)
          → sum_by (λ r. r.allotted) (given_to (r ∷ rows) (cond s (next xs ∷ by_row rows (later xs)) (0 ∷ by_row rows xs))) ≡ sum xs
      go true [] h ih = absurd (let z : ⊥ = omega arith in z)
      go true (x ∷ xs) h ih =
          omega (arith, ih xs (omega arith), sum_by-cons (λ (r : Row Q). r.allotted) (with_lots x r) (given_to rows (by_row rows xs)), sum_by-cons (λ (y : ℕ). y) x xs)
      go false xs h ih = omega (arith, ih xs h, sum_by-cons (λ (r : Row Q). r.allotted) (with_lots 0 r) (given_to rows (by_row rows xs)))

  -- the bid of a row, if it stands
  abbrev pub bid_standing : Option (Row Q) → Option (Bid Q)
  bid_standing None = None
  bid_standing (Some r) = cond r.standing (Some (bid_in r)) None

  -- the bid that stands under a number, off its row
  pub row_bid : (n : ℕ) (rows : List (Row Q)) → RowsApart rows → bid_of n (standing rows) ≡ bid_standing (row_of n rows)
  row_bid n [] h = refl
  row_bid n (r ∷ rows) h = go (eqb r.number n) refl r.standing refl (row_bid n rows h.1)
    where
      go : (v : Bool) → eqb r.number n ≡ v → (s : Bool) → r.standing ≡ s → bid_of n (standing rows) ≡ bid_standing (row_of n rows)
          → bid_of n (cond s (bid_in r ∷ standing rows) (standing rows)) ≡ bid_standing (cond v (Some r) (row_of n rows))
      go true e true k ih = ap (λ w. cond w (Some (bid_in r)) (bid_of n (standing rows))) e ∙ ap (λ w. cond w (Some (bid_in r)) None) (sym k)
      go true e false k ih =
          none_stands n (standing rows) (standing_numbers (λ m. n ≢ m) rows (subst (λ m. All (λ a. m ≢ a.number) rows) (eqb-true r.number n e) h.0))
          ∙ ap (λ w. cond w (Some (bid_in r)) None) (sym k)
      go false e true k ih = ap (λ w. cond w (Some (bid_in r)) (bid_of n (standing rows))) e ∙ ih
      go false e false k ih = ih
