-- Rows in use, each under a number of its own: what an entry, a change, a withdrawal and an award make of them.
use Rattle.std.proofs.Common.{◌≡◌, ℕ, suc, ◌+◌, Bool, true, false, cond, not, ◌&&◌, eqb, ◌≢◌, List, [], ◌∷◌, ◌++◌, length, is_some, Some, None, sym, refl, ap, ◌∙◌, subst, arith}
use Rattle.std.specs.List.{AllByRecursion as All}
use Rattle.std.proofs.ByRecursion.{All-append}
use Rattle.std.proofs.lemmas.Bool.{and_parts, both_ways, eqb-true, ne_eqb, cond_both, cond-false}
use Rattle.award.specs.declared.row.Row.{Row}
use Rattle.award.specs.Award.{Bid}
use Rattle.award.specs.Rows.{bid_in, standing}
use Rattle.book.specs.Table.{bid_of, without}
use Rattle.book.specs.Steps.{stands_as, without_row, withdrawn_row, withdrawn_in}

-- no two rows have the same number
abbrev pub RowsApart : {Q : Type 0} → List (Row Q) → Type 0
RowsApart [] = Unit {0}
RowsApart (r ∷ rows) = All (λ a. r.number ≢ a.number) rows × RowsApart rows

module _ {Q : Type 0} where
  -- the standing bids of one row and more
  pub standing_append : (xs ys : List (Row Q)) → standing (xs ++ ys) ≡ standing xs ++ standing ys
  standing_append [] ys = refl
  standing_append (r ∷ xs) ys = ap (λ bids. cond r.standing (bid_in r ∷ bids) bids) (standing_append xs ys) ∙ go r.standing
    where
      go : (v : Bool) → cond v (bid_in r ∷ (standing xs ++ standing ys)) (standing xs ++ standing ys) ≡ cond v (bid_in r ∷ standing xs) (standing xs) ++ standing ys
      go true = refl
      go false = refl

  -- what holds of the number of each row holds of the number of each standing bid
  pub standing_numbers : (P : ℕ → Type 0) (rows : List (Row Q)) → All (λ r. P r.number) rows → All (λ b. P b.number) (standing rows)
  standing_numbers P [] h = tt
  standing_numbers P (r ∷ rows) h =
      cond_both r.standing (bid_in r ∷ standing rows) (standing rows) (All (λ b. P b.number))
      (λ _. (h.0, standing_numbers P rows h.1))
      (λ _. standing_numbers P rows h.1)

  -- the other rows have other numbers
  others : (r : Row Q) (rows : List (Row Q)) (n : ℕ) → All (λ a. r.number ≢ a.number) rows → r.number ≡ n → All (λ a. n ≢ a.number) rows
  others r rows n h e = subst (λ m. All (λ a. m ≢ a.number) rows) e h

  pub apart_push : (rows : List (Row Q)) (r : Row Q) → RowsApart rows → All (λ a. a.number ≢ r.number) rows → RowsApart (rows ++ r ∷ [])
  apart_push [] r h k = (tt, tt)
  apart_push (a ∷ rows) r h k = (All-append (λ x. a.number ≢ x.number) rows (r ∷ []) h.0 (k.0, tt), apart_push rows r h.1 k.1)

  -- no bid stands under a number that no row has
  pub none_stands : (n : ℕ) (bids : List (Bid Q)) → All (λ b. n ≢ b.number) bids → bid_of n bids ≡ None
  none_stands n [] h = refl
  none_stands n (b ∷ bids) h =
      cond-false (eqb b.number n) (Some b) (bid_of n bids) (ne_eqb b.number n (λ e. h.0 (sym e))) ∙ none_stands n bids h.1

  none_removed : (n : ℕ) (bids : List (Bid Q)) → All (λ b. n ≢ b.number) bids → without n bids ≡ bids
  none_removed n [] h = refl
  none_removed n (b ∷ bids) h =
      ap (λ v. cond (not v) (b ∷ without n bids) (without n bids)) (ne_eqb b.number n (λ e. h.0 (sym e))) ∙ ap (λ bs. b ∷ bs) (none_removed n bids h.1)

  module _ (n : ℕ) where
    number_of : (r : Row Q) → stands_as n r ≡ true → (r.standing ≡ true) × (r.number ≡ n)
    number_of r e = let p = and_parts r.standing (eqb r.number n) e in (p.0, eqb-true r.number n p.1)

    -- the first row is the one under the number, and goes out of the standing bids
    gone : (r : Row Q) (rows : List (Row Q)) → All (λ a. r.number ≢ a.number) rows → stands_as n r ≡ true → standing rows ≡ without n (standing (r ∷ rows))
    gone r rows h e =
        let is = and_parts r.standing (eqb r.number n) e in
        let rest = none_removed n (standing rows) (standing_numbers (λ m. n ≢ m) rows (others r rows n h (number_of r e).1)) in
        sym
        (ap (λ v. without n (cond v (bid_in r ∷ standing rows) (standing rows))) is.0
        ∙ ap (λ v. cond (not v) (bid_in r ∷ without n (standing rows)) (without n (standing rows))) is.1
        ∙ rest)

    -- the first row is another, and stays as it is
    stays : (r : Row Q) (rows : List (Row Q)) (bids : List (Bid Q)) → stands_as n r ≡ false → bids ≡ without n (standing rows)
        → cond r.standing (bid_in r ∷ bids) bids ≡ without n (standing (r ∷ rows))
    stays r rows bids e h = go r.standing (eqb r.number n) refl e
      where
        go : (s v : Bool) → eqb r.number n ≡ v → (s && v) ≡ false
            → cond s (bid_in r ∷ bids) bids ≡ without n (cond s (bid_in r ∷ standing rows) (standing rows))
        go true true k f = absurd (both_ways true f refl)
        go true false k f = ap (λ bs. bid_in r ∷ bs) h ∙ ap (λ w. cond (not w) (bid_in r ∷ without n (standing rows)) (without n (standing rows))) (sym k)
        go false v k f = h

    pub standing_moved : (rows : List (Row Q)) → RowsApart rows → standing (without_row n rows) ≡ without n (standing rows)
    standing_moved [] h = refl
    standing_moved (r ∷ rows) h =
        cond_both (stands_as n r) rows (r ∷ without_row n rows) (λ rs. standing rs ≡ without n (standing (r ∷ rows)))
        (λ e. gone r rows h.0 e)
        (λ e. stays r rows (standing (without_row n rows)) e (standing_moved rows h.1))

    pub standing_withdrawn : (rows : List (Row Q)) → RowsApart rows → standing (withdrawn_in n rows) ≡ without n (standing rows)
    standing_withdrawn [] h = refl
    standing_withdrawn (r ∷ rows) h =
        cond_both (stands_as n r) (withdrawn_row r ∷ rows) (r ∷ withdrawn_in n rows) (λ rs. standing rs ≡ without n (standing (r ∷ rows)))
        (λ e. gone r rows h.0 e)
        (λ e. stays r rows (standing (withdrawn_in n rows)) e (standing_withdrawn rows h.1))

    -- what holds of each row holds of those left
    pub all_moved : (P : Row Q → Type 0) (rows : List (Row Q)) → All P rows → All P (without_row n rows)
    all_moved P [] h = tt
    all_moved P (r ∷ rows) h =
        cond_both (stands_as n r) rows (r ∷ without_row n rows) (All P) (λ _. h.1) (λ _. (h.0, all_moved P rows h.1))

    pub all_withdrawn : (P : Row Q → Type 0) → ((r : Row Q) → P r → P (withdrawn_row r)) → (rows : List (Row Q)) → All P rows → All P (withdrawn_in n rows)
    all_withdrawn P keeps [] h = tt
    all_withdrawn P keeps (r ∷ rows) h =
        cond_both (stands_as n r) (withdrawn_row r ∷ rows) (r ∷ withdrawn_in n rows) (All P)
        (λ _. (keeps r h.0, h.1))
        (λ _. (h.0, all_withdrawn P keeps rows h.1))

    pub apart_moved : (rows : List (Row Q)) → RowsApart rows → RowsApart (without_row n rows)
    apart_moved [] h = tt
    apart_moved (r ∷ rows) h =
        cond_both (stands_as n r) rows (r ∷ without_row n rows) RowsApart
        (λ _. h.1)
        (λ _. (all_moved (λ a. r.number ≢ a.number) rows h.0, apart_moved rows h.1))

    pub apart_withdrawn : (rows : List (Row Q)) → RowsApart rows → RowsApart (withdrawn_in n rows)
    apart_withdrawn [] h = tt
    apart_withdrawn (r ∷ rows) h =
        cond_both (stands_as n r) (withdrawn_row r ∷ rows) (r ∷ withdrawn_in n rows) RowsApart
        (λ _. h)
        (λ _. (all_withdrawn (λ a. r.number ≢ a.number) (λ a k. k) rows h.0, apart_withdrawn rows h.1))

    pub length_withdrawn : (rows : List (Row Q)) → length (withdrawn_in n rows) ≡ length rows
    length_withdrawn [] = refl
    length_withdrawn (r ∷ rows) =
        cond_both (stands_as n r) (withdrawn_row r ∷ rows) (r ∷ withdrawn_in n rows) (λ rs. length rs ≡ length (r ∷ rows))
        (λ _. refl)
        (λ _. ap suc (length_withdrawn rows))

    -- where a bid stands under the number, its row is one of them
    row_stands : (r : Row Q) (rows : List (Row Q)) → stands_as n r ≡ false → is_some (bid_of n (standing (r ∷ rows))) ≡ true → is_some (bid_of n (standing rows)) ≡ true
    row_stands r rows e h = go r.standing (eqb r.number n) refl e h
      where
        go : (s v : Bool) → eqb r.number n ≡ v → (s && v) ≡ false → is_some (bid_of n (cond s (bid_in r ∷ standing rows) (standing rows))) ≡ true
            → is_some (bid_of n (standing rows)) ≡ true
        go true true k f h = absurd (both_ways true f refl)
        go true false k f h = sym (ap (λ w. is_some (cond w (Some (bid_in r)) (bid_of n (standing rows)))) k) ∙ h
        go false v k f h = h

    pub length_moved : (rows : List (Row Q)) → is_some (bid_of n (standing rows)) ≡ true → length (without_row n rows) + 1 ≡ length rows
    length_moved [] e = absurd (both_ways false refl e)
    length_moved (r ∷ rows) e =
        cond_both (stands_as n r) rows (r ∷ without_row n rows) (λ rs. length rs + 1 ≡ length (r ∷ rows))
        (λ _. omega arith)
        (λ k. omega (arith, length_moved rows (row_stands r rows k e)))

    pub others_moved : (rows : List (Row Q)) → RowsApart rows → is_some (bid_of n (standing rows)) ≡ true → All (λ r. r.number ≢ n) (without_row n rows)
    others_moved [] h e = absurd (both_ways false refl e)
    others_moved (r ∷ rows) h e =
        cond_both (stands_as n r) rows (r ∷ without_row n rows) (All (λ r. r.number ≢ n))
        (λ k. turned rows (others r rows n h.0 (number_of r k).1))
        (λ k. (unlike (row_stands r rows k e), others_moved rows h.1 (row_stands r rows k e)))
      where
        turned : (rows : List (Row Q)) → All (λ a. n ≢ a.number) rows → All (λ a. a.number ≢ n) rows
        turned [] h = tt
        turned (a ∷ rows) h = (λ e. h.0 (sym e), turned rows h.1)

        unlike : is_some (bid_of n (standing rows)) ≡ true → r.number ≢ n
        unlike some i =
            both_ways (is_some (bid_of n (standing rows)))
            (ap is_some (none_stands n (standing rows) (standing_numbers (λ m. n ≢ m) rows (others r rows n h.0 i)))) some
