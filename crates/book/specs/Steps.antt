-- What an event does to a book, and what it answers.
use Rattle.std.specs.Prelude.{ℕ, ◌+◌, Bool, true, false, cond, ◌&&◌, List, [], ◌∷◌, ◌++◌, length, drop, ℤ, Some, None, Ok, Err, Option, Result, ◌==◌}
use Rattle.std.specs.Option.{option_map}
use Rattle.terms.specs.Grounds.{first}
use Rattle.award.specs.declared.row.Row.{Row}
use Rattle.award.specs.Award.{cut_off, allotments}
pub use Rattle.award.specs.Rows.{new_row}
use Rattle.award.specs.Rows.{standing, by_row, given_to}
use Rattle.book.specs.declared.event.Event.{Event}
use Rattle.book.specs.declared.event.Event.TheVariants.{Entry, Change, Withdrawal, Close, Limit}
use Rattle.book.specs.declared.fault.BookFault.{BookFault}
use Rattle.book.specs.declared.state.State.{State}
use Rattle.book.specs.declared.state.State.TheVariants.{Closed, Decided}
use Rattle.book.specs.Table.{grounds, answer}
use Rattle.book.specs.Questions.{terms_of}
use Rattle.book.specs.Sheets.{Sheet, in_use, past_of}

module _ {Q : Type 0} where
  -- the bid of a row stands under a number
  abbrev pub stands_as : ℕ → Row Q → Bool
  stands_as n r = r.standing && r.number == n

  -- a row whose bid is withdrawn
  abbrev pub withdrawn_row : Row Q → Row Q
  withdrawn_row r = record { number = r.number; house = r.house; quote = r.quote; lots = r.lots; standing = false; allotted = r.allotted }

  -- the rows without the one whose bid stands under a number
  abbrev pub without_row : ℕ → List (Row Q) → List (Row Q)
  without_row n [] = []
  without_row n (r ∷ rows) = cond (stands_as n r) rows (r ∷ without_row n rows)

  -- the rows, with the bid that stands under a number withdrawn
  abbrev pub withdrawn_in : ℕ → List (Row Q) → List (Row Q)
  withdrawn_in n [] = []
  withdrawn_in n (r ∷ rows) = cond (stands_as n r) (withdrawn_row r ∷ rows) (r ∷ withdrawn_in n rows)

  -- the table with other rows in use, as many as before or one more, and all the rows behind them as they were
  abbrev pub rows_with : List (Row Q) → List (Row Q) → List (Row Q)
  rows_with used rows = used ++ drop (length used) rows

  -- an entry takes the next row
  abbrev pub with_entry : Sheet Q → ℕ → ℕ → ℕ → Option Q → Sheet Q
  with_entry s house second lots None = s
  with_entry s house second lots (Some q) =
      record {
        notice = s.notice;
        state = s.state;
        used = s.used + 1;
        arrivals = s.arrivals + 1;
        last = second;
        rows = rows_with (in_use s ++ new_row (s.used + 1) house q lots ∷ []) s.rows;
      }

  -- a change moves its bid behind the last used row
  abbrev pub with_change : Sheet Q → ℕ → ℕ → ℕ → ℕ → Option Q → Sheet Q
  with_change s number house second lots None = s
  with_change s number house second lots (Some q) =
      record {
        notice = s.notice;
        state = s.state;
        used = s.used;
        arrivals = s.arrivals + 1;
        last = second;
        rows = rows_with (without_row number (in_use s) ++ new_row number house q lots ∷ []) s.rows;
      }

  -- a withdrawal marks its row
  abbrev pub with_withdrawal : Sheet Q → ℕ → ℕ → Sheet Q
  with_withdrawal s number second =
      record {
        notice = s.notice;
        state = s.state;
        used = s.used;
        arrivals = s.arrivals;
        last = second;
        rows = rows_with (withdrawn_in number (in_use s)) s.rows;
      }

  -- a close ends the taking of bids
  abbrev pub with_close : Sheet Q → Sheet Q
  with_close s = record { notice = s.notice; state = Closed; used = s.used; arrivals = s.arrivals; last = s.last; rows = s.rows }

  -- a call that is refused leaves the book as it was
  abbrev pub judged : Option BookFault → Sheet Q → Sheet Q → ℕ → Sheet Q × Result ℕ BookFault
  judged None s after n = (after, Ok n)
  judged (Some f) s after n = (s, Err f)

-- the state after an award, by the limit and the cut-off
abbrev pub state_by : {Q : Type 0} → (Q → ℤ) → Q → Option Q → State
state_by number limit cut = Decided (number limit) (option_map number cut)

module _ {Q : Type 0} (number : Q → ℤ) (read : ℤ → Option Q) (no_worse : Q → Q → Bool) (share : List ℕ → ℕ → List ℕ) where
  -- a limit awards: each used row has its allotment
  abbrev pub with_limit : Sheet Q → Option Q → Sheet Q
  with_limit s None = s
  with_limit s (Some limit) =
      record {
        notice = s.notice;
        state = state_by number limit (cut_off no_worse (terms_of s.notice) limit (standing (in_use s)));
        used = s.used;
        arrivals = s.arrivals;
        last = s.last;
        rows = given_to s.rows (by_row (in_use s) (allotments no_worse share (terms_of s.notice) limit (standing (in_use s))));
      }

  -- what an accepted event makes of a book
  abbrev pub effect : Sheet Q → Event → Sheet Q
  effect s (Entry e) = with_entry s e.house e.second e.lots (read e.quote)
  effect s (Change e) = with_change s e.number e.house e.second e.lots (read e.quote)
  effect s (Withdrawal e) = with_withdrawal s e.number e.second
  effect s (Close second) = with_close s
  effect s (Limit quote) = with_limit s (read quote)

  -- an event, with two work tables of so many places: the book after it, and the answer
  abbrev pub step : ℕ → ℕ → Sheet Q → Event → Sheet Q × Result ℕ BookFault
  step one other s e =
      judged (first (grounds read s.notice (length s.rows) (past_of read s) one other e)) s (effect s e)
      (answer read s.notice (length s.rows) (past_of read s) e)

-- only an accepted limit writes into the work tables
abbrev pub writes_tables : Event → Result ℕ BookFault → Bool
writes_tables (Entry e) r = false
writes_tables (Change e) r = false
writes_tables (Withdrawal e) r = false
writes_tables (Close second) r = false
writes_tables (Limit quote) (Ok n) = true
writes_tables (Limit quote) (Err f) = false
