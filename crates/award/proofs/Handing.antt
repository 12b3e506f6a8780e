-- What the tables of an award hold.
use Rattle.std.proofs.Common.{◌≡◌, ℕ, suc, ◌+◌, ◌-◌, ◌≤◌, Bool, true, false, cond, not, ◌&&◌, List, [], ◌∷◌, ◌++◌, map, length, drop, replicate, filter, Some, None, Option, MatchOption, Iter, Bor, sym, refl, ap, ◌∙◌, arith}
use Rattle.std.specs.Option.{option_copied, unwrap_or}
use Rattle.std.proofs.lemmas.List.{drop_at, drop-drop}
use Rattle.terms.specs.Sharing.{laid}
use Rattle.award.specs.declared.row.Row.{Row}
use Rattle.award.specs.Award.{Bid, next, later, same, demands_at, dealt}
use Rattle.award.specs.Rows.{bid_in, standing, by_row}
use Rattle.award.proofs.Divisible.{demands_few}

-- a list laid over a shorter one leaves nothing of that
drop_laid : (n : ℕ) (xs old : List ℕ) → length xs ≤ n → drop n (laid xs old) ≡ drop n old
drop_laid n xs old h =
    ap (λ k. drop k (laid xs old)) more ∙ sym (drop-drop (n - length xs) (length xs) (laid xs old))
    ∙ ap (drop (n - length xs)) (drop_at xs (drop (length xs) old) (length xs) refl) ∙ drop-drop (n - length xs) (length xs) old ∙ ap (λ k. drop k old) (sym more)
  where
    more : n ≡ length xs + (n - length xs)
    more = omega arith

pub laid_over : (xs ys old : List ℕ) → length xs ≤ length ys → laid ys (laid xs old) ≡ laid ys old
laid_over xs ys old h = ap (λ zs. ys ++ zs) (drop_laid (length ys) xs old h)

-- one step of the iterator over the shares: the next share, or nothing past the last
no_next : (xs : List ℕ) → length xs ≡ 0 → 0 ≡ next xs
no_next [] h = refl
no_next (x ∷ xs) h = absurd (let z : ⊥ = omega arith in z)

no_later : (xs : List ℕ) → length xs ≡ 0 → xs ≡ later xs
no_later [] h = refl
no_later (x ∷ xs) h = absurd (let z : ⊥ = omega arith in z)

pub share_taken : (s t : Iter ℕ) (o : Option (Bor ℕ)) → MatchOption o ((length s.rest.now ≡ 0) × (t ≡ s)) (λ x. s.rest.now ≡ x.now ∷ t.rest.now)
    → (unwrap_or (option_copied o) 0 ≡ next s.rest.now) × (t.rest.now ≡ later s.rest.now)
share_taken s t None h = (no_next s.rest.now h.0, ap (λ (i : Iter ℕ). i.rest.now) h.1 ∙ no_later s.rest.now h.0)
share_taken s t (Some x) h = (sym (ap next h), sym (ap later h))

-- shares at the front of a table are dealt as they are
pub dealt_front : {Q : Type 0} (no_worse : Q → Q → Bool) (cut : Q) (bids : List (Bid Q)) (xs more : List ℕ) → length xs ≡ length (demands_at no_worse cut bids)
    → dealt no_worse cut bids (xs ++ more) ≡ dealt no_worse cut bids xs
dealt_front {Q} no_worse cut [] xs more h = refl
dealt_front {Q} no_worse cut (b ∷ bids) xs more h = go (no_worse b.quote cut) (no_worse cut b.quote) xs h (λ ys k. dealt_front no_worse cut bids ys more k)
  where
    go : (u v : Bool) (xs : List ℕ) → length xs ≡ length (map (λ a. a.lots) (cond (u && v) (b ∷ filter (λ a. same no_worse a.quote cut) bids) (filter (λ a. same no_worse a.quote cut) bids)))
        → ((ys : List ℕ) → length ys ≡ length (demands_at no_worse cut bids) → dealt no_worse cut bids (ys ++ more) ≡ dealt no_worse cut bids ys)
        → cond (u && not v) (b.lots ∷ dealt no_worse cut bids (xs ++ more)) (cond (u && v) (next (xs ++ more) ∷ dealt no_worse cut bids (later (xs ++ more))) (0 ∷ dealt no_worse cut bids (xs ++ more)))
        ≡ cond (u && not v) (b.lots ∷ dealt no_worse cut bids xs) (cond (u && v) (next xs ∷ dealt no_worse cut bids (later xs)) (0 ∷ dealt no_worse cut bids xs))
    go true true [] h ih = absurd (let z : ⊥ = omega arith in z)
    go true true (x ∷ xs) h ih = ap (λ ys. x ∷ ys) (ih xs (omega arith))
    go true false xs h ih = ap (λ ys. b.lots ∷ ys) (ih xs h)
    go false v xs h ih = ap (λ ys. 0 ∷ ys) (ih xs h)

module _ {Q : Type 0} where
  pub by_row_length : (rows : List (Row Q)) (xs : List ℕ) → length (by_row rows xs) ≡ length rows
  by_row_length [] xs = refl
  by_row_length (r ∷ rows) xs = go r.standing (by_row_length rows (later xs)) (by_row_length rows xs)
    where
      go : (s : Bool) → length (by_row rows (later xs)) ≡ length rows → length (by_row rows xs) ≡ length rows
          → length (cond s (next xs ∷ by_row rows (later xs)) (0 ∷ by_row rows xs)) ≡ length (r ∷ rows)
      go true h k = ap suc h
      go false h k = ap suc k

  pub standing_few : (rows : List (Row Q)) → length (standing rows) ≤ length rows
  standing_few [] = omega arith
  standing_few (r ∷ rows) = go r.standing (standing_few rows)
    where
      go : (s : Bool) → length (standing rows) ≤ length rows → length (cond s (bid_in r ∷ standing rows) (standing rows)) ≤ length (r ∷ rows)
      go true h = omega arith
      go false h = omega arith

  -- there are no more demands at a cut-off than rows
  pub demands_rows : (no_worse : Q → Q → Bool) (cut : Q) (rows : List (Row Q)) → length (demands_at no_worse cut (standing rows)) ≤ length rows
  demands_rows no_worse cut rows = omega (arith, demands_few no_worse cut (standing rows), standing_few rows)

  -- a list made from the standing bids, by row
  abbrev pub rows_by : (List (Bid Q) → List ℕ) → List (Row Q) → List ℕ
  rows_by F rows = by_row rows (F (standing rows))

  -- nothing for anyone
  abbrev pub none : List (Bid Q) → List ℕ
  none bids = map (λ b. 0) bids

  pub none_all : (rows : List (Row Q)) → by_row rows (none (standing rows)) ≡ replicate (length rows) 0
  none_all [] = refl
  none_all (r ∷ rows) = go r.standing (ap (λ xs. 0 ∷ xs) (none_all rows))
    where
      go : (s : Bool) → 0 ∷ by_row rows (none (standing rows)) ≡ replicate (length (r ∷ rows)) 0
          → (let bids = cond s (bid_in r ∷ standing rows) (standing rows) in cond s (next (none bids) ∷ by_row rows (later (none bids))) (0 ∷ by_row rows (none bids))) ≡ replicate (length (r ∷ rows)) 0
      go true h = h
      go false h = h
