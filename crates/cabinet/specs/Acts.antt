-- The act that a book tells: what became of the offer, and a row for each bid entered, by number.
use Rattle.std.specs.Prelude.{ℕ, zero, suc, Bool, cond, List, [], ◌∷◌, ◌++◌, ℤ, Some, None, Ok, Err, Option, Result}
use Rattle.award.specs.declared.row.Row.{Row}
use Rattle.book.specs.declared.fault.BookFault.{BookFault}
use Rattle.book.specs.declared.outcome.Outcome.{Outcome}
use Rattle.book.specs.declared.outcome.Outcome.TheVariants.{Out}
use Rattle.book.specs.Table.{is_decided}
use Rattle.book.specs.Sheets.{Sheet, in_use, phase_of}
use Rattle.book.specs.Told.{row_of, sheet_placed, sheet_cut, sheet_outcome}
use Rattle.print.specs.declared.head.Cut.{Cut}
use Rattle.print.specs.declared.row.ActRow.{ActRow}
use Rattle.print.specs.Lines.{act_head, row_line, no_act_line}
use Rattle.print.specs.Texts.{texts}

-- the outcome that is told; a decided book tells one for each number given
abbrev pub outcome_in : Result Outcome BookFault → Outcome
outcome_in (Ok o) = o
outcome_in (Err f) = Out

module _ {Q : Type 0} (number : Q → ℤ) (read : ℤ → Option Q) (no_worse : Q → Q → Bool) where
  -- the row of a number: the bid's house, last quote and last lots, the lots allotted, and the outcome
  abbrev pub act_row : Sheet Q → ℕ → Row Q → ActRow
  act_row s n r =
      record {
        number = n;
        house = r.house;
        quote = number r.quote;
        lots = r.lots;
        allotted = r.allotted;
        outcome = outcome_in (sheet_outcome read no_worse s n);
      }

  abbrev pub one_row : Sheet Q → ℕ → Option (Row Q) → List ActRow
  one_row s n None = []
  one_row s n (Some r) = act_row s n r ∷ []

  -- the rows of the numbers 1 to n, and of all numbers given
  abbrev pub rows_to : Sheet Q → ℕ → List ActRow
  rows_to s zero = []
  rows_to s (suc n) = rows_to s n ++ one_row s (suc n) (row_of (suc n) (in_use s))

  abbrev pub act_rows : Sheet Q → List ActRow
  act_rows s = rows_to s s.used

  -- what became of the offer
  abbrev pub award_by : Sheet Q → Option Q → Option Cut
  award_by s None = None
  award_by s (Some cut) = Some (record { cut = number cut; placed = sheet_placed s; offer = s.notice.offer })

  -- what is printed of a book under the kind's word: its act, or that there is none
  abbrev pub act_print : List ℕ → Sheet Q → List ℕ
  act_print word s =
      cond (is_decided (phase_of s.state))
      (act_head s.notice.series word (award_by s (sheet_cut read s)) ++ texts row_line (act_rows s))
      no_act_line
