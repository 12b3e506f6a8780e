-- A book as a value: its sheet.
use Rattle.std.specs.Prelude.{ℕ, List, take, ℤ, None, Option}
use Rattle.std.specs.Option.{option_and_then}
use Rattle.terms.specs.declared.notice.Notice.{Notice}
use Rattle.award.specs.declared.row.Row.{Row}
use Rattle.award.specs.Rows.{standing}
use Rattle.book.specs.declared.state.State.{State}
use Rattle.book.specs.declared.state.State.TheVariants.{Open, Closed, Decided}
use Rattle.book.specs.Table.{Phase, taking_bids, awaiting_limit, decided, Past}

pub record Sheet (Q : Type 0) : Type 0 where
  pub notice : Notice
  pub state : State
  -- how many rows are used, from the first; in them the bids stand in the order of their arrival
  pub used : ℕ
  pub arrivals : ℕ
  pub last : ℕ
  -- all the rows that were lent
  pub rows : List (Row Q)

-- the rows used
abbrev pub in_use : {Q : Type 0} → Sheet Q → List (Row Q)
in_use s = take s.used s.rows

abbrev pub phase_of : State → Phase
phase_of Open = taking_bids
phase_of Closed = awaiting_limit
phase_of (Decided limit cut) = decided

abbrev pub limit_of : {Q : Type 0} → (ℤ → Option Q) → State → Option Q
limit_of read Open = None
limit_of read Closed = None
limit_of read (Decided limit cut) = read limit

abbrev pub cut_of : {Q : Type 0} → (ℤ → Option Q) → State → Option Q
cut_of read Open = None
cut_of read Closed = None
cut_of read (Decided limit cut) = option_and_then read cut

-- what the table of refusals judges a sheet by
abbrev pub past_of : {Q : Type 0} → (ℤ → Option Q) → Sheet Q → Past Q
past_of read s =
    record {
      phase = phase_of s.state;
      standing = standing (in_use s);
      entered = s.used;
      arrivals = s.arrivals;
      last = s.last;
      limit = limit_of read s.state;
    }

-- a book that was just opened
abbrev pub opened : {Q : Type 0} → Notice → List (Row Q) → Sheet Q
opened notice rows = record { notice = notice; state = Open; used = 0; arrivals = 0; last = 0; rows = rows }
