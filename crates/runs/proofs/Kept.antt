-- A sheet beside what the accepted calls come to: what calls keep true of it, and what it tells before an award.
use Rattle.std.proofs.Common.{◌≡◌, ℕ, ◌≤◌, Bool, true, false, List, length, take, drop, ℤ, None, Option, sym, refl, ap, ◌∙◌, subst, arith}
use Rattle.std.specs.List.{AllByRecursion as All}
use Rattle.std.proofs.lemmas.List.{length-append, length-drop, length-take-le, take_at}
use Rattle.std.proofs.lemmas.Bool.{both_ways}
use Rattle.terms.specs.declared.notice.Notice.{Notice}
use Rattle.terms.specs.Grounds.{first}
use Rattle.award.specs.declared.row.Row.{Row}
use Rattle.award.proofs.Sums.{sum_zero}
use Rattle.book.specs.declared.event.Event.{Event}
use Rattle.book.specs.declared.state.State.{State}
use Rattle.book.specs.declared.state.State.TheVariants.{Open, Closed, Decided}
use Rattle.book.specs.Table.{is_decided, Past, was_given, bid_of, grounds, next}
use Rattle.book.specs.Questions.{cut_by, placed_by, cut_told, placed_told, lots_told, allotment_told, outcome_of, outcome_told}
use Rattle.book.specs.Sheets.{Sheet, in_use, phase_of, limit_of, cut_of, past_of, opened}
use Rattle.book.specs.Steps.{rows_with, effect}
use Rattle.book.specs.Told.{row_of, allotted_in, sheet_placed, sheet_cut, sheet_allotment, row_outcome, sheet_outcome}
use Rattle.runs.proofs.Moments.{told_early}
use Rattle.runs.proofs.Rows.{RowsApart}

-- the rows in use, before an award
pub record Fresh {Q : Type 0} (used : ℕ) (rows : List (Row Q)) : Type 0 where
  -- have numbers of their own, of those given,
  pub apart : RowsApart rows
  pub numbers : All (λ r. r.number ≤ used) rows
  -- and no allotment yet
  pub untouched : All (λ r. r.allotted ≡ 0) rows

-- other rows in use
module _ {Q : Type 0} (used rows : List (Row Q)) (n : ℕ) (long : length used ≡ n) where
  pub in_use_with : take n (rows_with used rows) ≡ used
  in_use_with = take_at used (drop (length used) rows) n long

  pub length_with : n ≤ length rows → length (rows_with used rows) ≡ length rows
  length_with h = simp (length-append, length-drop) (omega arith)

-- the rows in use are as many as are used
pub in_use_long : {Q : Type 0} (s : Sheet Q) → s.used ≤ length s.rows → length (in_use s) ≡ s.used
in_use_long s fit = length-take-le s.used s.rows fit

-- an undecided state has neither limit nor cut-off
pub no_limit : {Q : Type 0} (read : ℤ → Option Q) (st : State) → is_decided (phase_of st) ≡ false → (limit_of read st ≡ None) × (cut_of read st ≡ None)
no_limit read Open e = (refl, refl)
no_limit read Closed e = (refl, refl)
no_limit read (Decided limit cut) e = absurd (both_ways true e refl)

module _ {Q : Type 0} (number : Q → ℤ) (read : ℤ → Option Q) (no_worse : Q → Q → Bool) (share : List ℕ → ℕ → List ℕ) where
  -- what a sheet tells by its rows is what the questions are answered by the rules
  pub record Tells (s : Sheet Q) : Type 0 where
    pub placed : sheet_placed s ≡ placed_told no_worse share s.notice (past_of read s)
    pub cut : sheet_cut read s ≡ cut_told no_worse share s.notice (past_of read s)
    pub allotment : (n : ℕ) → sheet_allotment read s n ≡ allotment_told no_worse share s.notice (past_of read s) n
    pub outcome : (n : ℕ) → sheet_outcome read no_worse s n ≡ outcome_told no_worse share s.notice (past_of read s) n

  -- what calls keep true of a sheet
  pub record Kept (s : Sheet Q) : Type 0 where
    pub fit : s.used ≤ length s.rows
    pub few : s.used ≤ 4_096
    pub fresh : is_decided (phase_of s.state) ≡ false → Fresh s.used (in_use s)
    pub tells : Tells s

  -- a sheet with nothing awarded
  pub fresh_tells : (s : Sheet Q) → is_decided (phase_of s.state) ≡ false → Fresh s.used (in_use s) → Tells s
  fresh_tells s early f =
      let p = past_of read s in
      let none = no_limit read s.state early in
      record {
        placed = sum_zero (λ r. r.allotted) (in_use s) f.untouched ∙ sym (ap (placed_by no_worse share s.notice p.standing) none.0);
        cut = none.1 ∙ sym (ap (cut_by no_worse share s.notice p.standing) none.0);
        allotment = λ n.
            told_early (allotted_in (row_of n (in_use s))) p.phase (was_given p n) early
            ∙ sym (told_early (lots_told no_worse share s.notice p n) p.phase (was_given p n) early);
        outcome = λ n.
            told_early (row_outcome read no_worse s (row_of n (in_use s))) p.phase (was_given p n) early
            ∙ sym (told_early (outcome_of no_worse share s.notice p n (bid_of n p.standing)) p.phase (was_given p n) early);
      }

  pub opened_kept : (notice : Notice) (rows : List (Row Q)) → Kept (opened notice rows)
  opened_kept notice rows =
      let f : Fresh 0 (take 0 rows) = record { apart = tt; numbers = tt; untouched = tt } in
      record { fit = omega arith; few = omega arith; fresh = λ _. f; tells = fresh_tells (opened notice rows) refl f }

  -- a sheet after another, and what the accepted calls come to after it
  pub record Follows (s after : Sheet Q) (p : Past Q) : Type 0 where
    pub kept : Kept after
    pub same : past_of read after ≡ p
    pub notice : after.notice ≡ s.notice
    pub long : length after.rows ≡ length s.rows

  -- while bids are taken, with other rows in use
  pub taking : (s after : Sheet Q) (used : List (Row Q)) → is_decided (phase_of s.state) ≡ false → after.state ≡ s.state → in_use after ≡ used
      → Fresh after.used used → after.used ≤ length after.rows → after.used ≤ 4_096 → Kept after
  taking s after used early st is f fit few =
      let undecided : is_decided (phase_of after.state) ≡ false = ap (λ x. is_decided (phase_of x)) st ∙ early in
      let g = subst (Fresh after.used) (sym is) f in
      record { fit = fit; few = few; fresh = λ _. g; tells = fresh_tells after undecided g }

  -- an accepted event takes both on
  abbrev pub TakesOn : Sheet Q → Event → Type 0
  TakesOn s e =
      (one other : ℕ) → first (grounds read s.notice (length s.rows) (past_of read s) one other e) ≡ None
      → Follows s (effect number read no_worse share s e) (next read s.notice (length s.rows) (past_of read s) e)
