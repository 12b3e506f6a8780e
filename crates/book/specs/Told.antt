-- What a book tells, as it reads it off its rows.
use Rattle.std.specs.Prelude.{ℕ, Bool, cond, List, length, ℤ, Some, None, sum_by, Option, Result, ◌==◌}
use Rattle.std.specs.List.{find}
use Rattle.terms.specs.Grounds.{first}
use Rattle.award.specs.declared.row.Row.{Row}
use Rattle.award.specs.Rows.{standing}
use Rattle.book.specs.declared.fault.BookFault.{BookFault}
use Rattle.book.specs.declared.outcome.Outcome.{Outcome}
use Rattle.book.specs.declared.outcome.Outcome.TheVariants.{Out}
use Rattle.book.specs.Outcomes.{outcome_by}
use Rattle.book.specs.Table.{was_given}
use Rattle.book.specs.Questions.{told_unless, number_grounds}
use Rattle.book.specs.Sheets.{Sheet, in_use, phase_of, limit_of, cut_of, past_of}

-- the row of a number, withdrawn or not
abbrev pub row_of : {Q : Type 0} → ℕ → List (Row Q) → Option (Row Q)
row_of n = find (λ r. r.number == n)

abbrev pub allotted_in : {Q : Type 0} → Option (Row Q) → ℕ
allotted_in None = 0
allotted_in (Some r) = r.allotted

-- the count of standing bids, and the placed lots: the sum of the allotments
abbrev pub sheet_count : {Q : Type 0} → Sheet Q → ℕ
sheet_count s = length (standing (in_use s))

abbrev pub sheet_placed : {Q : Type 0} → Sheet Q → ℕ
sheet_placed s = sum_by (λ r. r.allotted) (in_use s)

module _ {Q : Type 0} (read : ℤ → Option Q) where
  abbrev pub sheet_cut : Sheet Q → Option Q
  sheet_cut s = cut_of read s.state

  abbrev pub sheet_allotment : Sheet Q → ℕ → Result ℕ BookFault
  sheet_allotment s n = told_unless (first (number_grounds (phase_of s.state) (was_given (past_of read s) n))) (allotted_in (row_of n (in_use s)))

  module _ (no_worse : Q → Q → Bool) where
    abbrev pub row_outcome : Sheet Q → Option (Row Q) → Outcome
    row_outcome s None = Out
    row_outcome s (Some r) =
        cond r.standing (outcome_by no_worse (limit_of read s.state) (sheet_cut s) r.quote r.lots r.allotted) Out

    abbrev pub sheet_outcome : Sheet Q → ℕ → Result Outcome BookFault
    sheet_outcome s n = told_unless (first (number_grounds (phase_of s.state) (was_given (past_of read s) n))) (row_outcome s (row_of n (in_use s)))
