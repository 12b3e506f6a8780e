-- Rows whose lots fit, after one of them is written.
use Rattle.std.proofs.Common.{◌≡◌, ℕ, zero, suc, ◌+◌, ◌-◌, ◌<◌, ◌≤◌, ◌++◌, drop, sym, true, ◌&&◌, List, [], ◌∷◌, length, get_or, take, set, refl, ap, ◌∙◌, add-one, arith}
use Rattle.std.proofs.lemmas.Bool.{and_parts, and_from}
use Rattle.terms.specs.Sharing.{demand_fits}
use Rattle.award.specs.declared.row.Row.{Row}
use Rattle.award.specs.Rows.{rows_fit, given_to}
use Rattle.book.specs.Places.{closing}

module _ {Q : Type 0} where
  -- a row that fits is written over one of the first n rows
  pub fit_set : (n : ℕ) (rows : List (Row Q)) (i : ℕ) (r : Row Q) → rows_fit (take n rows) ≡ true → demand_fits r.lots ≡ true
      → rows_fit (take n (set rows i r)) ≡ true
  fit_set zero rows i r fit h = refl
  fit_set (suc n) [] i r fit h = refl
  fit_set (suc n) (x ∷ rows) zero r fit h = and_from _ _ h (and_parts (demand_fits x.lots) (rows_fit (take n rows)) fit).1
  fit_set (suc n) (x ∷ rows) (suc i) r fit h =
      let both = and_parts (demand_fits x.lots) (rows_fit (take n rows)) fit in
      and_from _ _ both.0 (fit_set n rows i r both.1 h)

  behind : (n : ℕ) (rows : List (Row Q)) (r : Row Q) → rows_fit (take n rows) ≡ true → demand_fits r.lots ≡ true
      → rows_fit (take (suc n) (set rows n r)) ≡ true
  behind zero [] r fit h = refl
  behind (suc n) [] r fit h = refl
  behind zero (x ∷ rows) r fit h = and_from _ _ h refl
  behind (suc n) (x ∷ rows) r fit h =
      let both = and_parts (demand_fits x.lots) (rows_fit (take n rows)) fit in
      and_from _ _ both.0 (behind n rows r both.1 h)

  -- a row that fits is written behind the first n rows
  pub fit_next : (n at : ℕ) (rows : List (Row Q)) (r : Row Q) → at ≡ n → rows_fit (take n rows) ≡ true → demand_fits r.lots ≡ true
      → rows_fit (take (n + 1) (set rows at r)) ≡ true
  fit_next n at rows r e fit h = ap (λ k. rows_fit (take (n + 1) (set rows k r))) e ∙ rw (add-one n) (behind n rows r fit h)

  -- the first rows behind the foremost are moved up by one
  fit_moved : (k : ℕ) (x : Row Q) (rows : List (Row Q)) → rows_fit (take (suc k) (x ∷ rows)) ≡ true → rows_fit (take (suc k) (take k rows ++ drop k (x ∷ rows))) ≡ true
  fit_moved zero x rows fit = fit
  fit_moved (suc zero) x [] fit = refl
  fit_moved (suc (suc k)) x [] fit = refl
  fit_moved (suc k) x (y ∷ rows) fit =
      let both = and_parts (demand_fits x.lots) (rows_fit (take (suc k) (y ∷ rows))) fit in
      and_from _ _ (and_parts (demand_fits y.lots) (rows_fit (take k rows)) both.1).0 (fit_moved k y rows both.1)

  -- those behind a place are
  fit_closed : (at k : ℕ) (rows : List (Row Q)) → at ≤ k → rows_fit (take (suc k) rows) ≡ true → rows_fit (take (suc k) (closing rows at k)) ≡ true
  fit_closed zero zero [] h fit = refl
  fit_closed zero (suc k) [] h fit = refl
  fit_closed zero k (x ∷ rows) h fit = fit_moved k x rows fit
  fit_closed (suc at) zero rows h fit = absurd (omega arith)
  fit_closed (suc at) (suc k) [] h fit = refl
  fit_closed (suc at) (suc k) (x ∷ rows) h fit =
      let both = and_parts (demand_fits x.lots) (rows_fit (take (suc k) rows)) fit in
      and_from _ _ both.0 (fit_closed at k rows (omega arith) both.1)

  pub fit_closing : (at used : ℕ) (rows : List (Row Q)) → at < used → rows_fit (take used rows) ≡ true → rows_fit (take used (closing rows at (used - 1))) ≡ true
  fit_closing at used rows h fit =
      let next : used ≡ suc (used - 1) = omega arith in
      ap (λ n. rows_fit (take n (closing rows at (used - 1)))) next
      ∙ fit_closed at (used - 1) rows (omega arith) (ap (λ n. rows_fit (take n rows)) (sym next) ∙ fit)

  -- rows that are given lots ask for what they did
  pub fit_given : (n : ℕ) (rows : List (Row Q)) (lots : List ℕ) → rows_fit (take n (given_to rows lots)) ≡ rows_fit (take n rows)
  fit_given zero rows lots = refl
  fit_given (suc n) [] lots = refl
  fit_given (suc n) (x ∷ rows) [] = refl
  fit_given (suc n) (x ∷ rows) (y ∷ lots) = ap (λ b. demand_fits x.lots && b) (fit_given n rows lots)

  pub given_length : (rows : List (Row Q)) (lots : List ℕ) → length (given_to rows lots) ≡ length rows
  given_length [] lots = refl
  given_length (x ∷ rows) [] = refl
  given_length (x ∷ rows) (y ∷ lots) = ap suc (given_length rows lots)

  -- the row at a place among the first n
  pub fit_at : (n : ℕ) (rows : List (Row Q)) (i : ℕ) (d : Row Q) → rows_fit (take n rows) ≡ true → i < n → i < length rows
      → demand_fits (get_or rows i d).lots ≡ true
  fit_at zero rows i d fit h k = absurd (omega arith)
  fit_at (suc n) [] i d fit h k = absurd (omega arith)
  fit_at (suc n) (x ∷ rows) zero d fit h k = (and_parts (demand_fits x.lots) (rows_fit (take n rows)) fit).0
  fit_at (suc n) (x ∷ rows) (suc i) d fit h k =
      fit_at n rows i d (and_parts (demand_fits x.lots) (rows_fit (take n rows)) fit).1 (omega arith) (omega arith)
