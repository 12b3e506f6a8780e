-- The award of the rows in use, as it is asked for and as it is written.
use Rattle.std.proofs.Common.{◌≡◌, ℕ, ◌≤◌, Bool, cond, not, List, length, take, ℤ, is_some, Some, None, Ok, Option, Result, sym, refl, ap, is_err, false, ◌∙◌}
use Rattle.std.proofs.lemmas.Bool.{both_ways}
use Rattle.std.proofs.lemmas.List.{length-take-le, take_at}
use Rattle.terms.specs.Grounds.{first}
use Rattle.terms.specs.Sharing.{laid}
use Rattle.terms.specs.Quotes.{quoted}
use Rattle.terms.specs.declared.fault.QuoteFault.{QuoteFault}
use Rattle.award.specs.declared.row.Row.{Row}
use Rattle.award.specs.Award.{Terms}
use Rattle.award.specs.Rows.{lots_by_row}
use Rattle.award.proofs.Handing.{by_row_length}
use Rattle.book.specs.declared.fault.BookFault.TheVariants.{QuoteOutOfRange}
use Rattle.book.specs.declared.state.State.{State}
use Rattle.book.specs.Sheets.{Sheet}
use Rattle.book.specs.Steps.{judged, with_limit}
use Rattle.book.specs.Judging.{table_grounds, awarded_by}

module _ {Q : Type 0} (no_worse : Q → Q → Bool) (share : List ℕ → ℕ → List ℕ) (t : Terms) (s : Terms) (same : t ≡ s) (limit : Q)
    (rows : List (Row Q)) (used : ℕ) (fit : used ≤ length rows) (bids : List (Row Q)) (front : bids ≡ take used rows) where
  -- the lots of the rows in use stand in front of the first table
  pub lots_in_front : (table : List ℕ) → take used (laid (lots_by_row no_worse share s limit (take used rows)) table) ≡ lots_by_row no_worse share s limit (take used rows)
  lots_in_front table =
      take_at (lots_by_row no_worse share s limit (take used rows)) _ used (by_row_length (take used rows) _ ∙ length-take-le used rows fit)

module _ {Q : Type 0} (number : Q → ℤ) (read : ℤ → Option Q) (no_worse : Q → Q → Bool) (share : List ℕ → ℕ → List ℕ) (one other : ℕ) (s : Sheet Q) (quote : ℤ) where
  -- a limit with no ground against it is taken
  pub limit_taken : (limit : Q) → read quote ≡ Some limit → first (table_grounds s.used one other) ≡ None
      → awarded_by number read no_worse share one other s quote ≡ (with_limit number read no_worse share s (Some limit), Ok 0)
  limit_taken limit e none =
      ap (λ o. judged (cond (not (is_some o)) (Some QuoteOutOfRange) (first (table_grounds s.used one other))) s (with_limit number read no_worse share s o) 0) e
      ∙ ap (λ f. judged f s (with_limit number read no_worse share s (Some limit)) 0) none

-- a number that was read as a quote
pub quoted_ok : {Q : Type 0} (o : Option Q) (q : Q) → ◌≡◌ {A = Result Q QuoteFault} (Ok q) (quoted o) → o ≡ Some q
quoted_ok None q e = absurd (both_ways false refl (ap is_err e))
quoted_ok (Some r) q e = let z : q ≡ r = cc in ap Some (sym z)

-- a sheet in another state
abbrev pub in_state : {Q : Type 0} → Sheet Q → State → Sheet Q
in_state s state = record { notice = s.notice; state = state; used = s.used; arrivals = s.arrivals; last = s.last; rows = s.rows }
