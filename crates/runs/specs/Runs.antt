-- A run of calls on a book: its sheet after them, and what holds of the run.
use Rattle.std.specs.Prelude.{◌≡◌, ℕ, Bool, List, [], ◌∷◌, ◌++◌, map, length, take, ℤ, Some, Ok, Option, Result, slice_index_or}
use Rattle.terms.specs.declared.notice.Notice.{Notice}
use Rattle.award.specs.declared.row.Row.{Row}
use Rattle.award.specs.Rows.{standing}
use Rattle.book.specs.declared.fault.BookFault.{BookFault}
use Rattle.book.specs.Table.{opening_past}
use Rattle.book.specs.Sheets.{Sheet, opened}
use Rattle.book.specs.Steps.{step}
use Rattle.book.specs.Told.{sheet_count, sheet_placed, sheet_cut, sheet_allotment, sheet_outcome}
use Rattle.runs.specs.declared.call.Call.{Call}
use Rattle.runs.specs.declared.call.Call.TheVariants as call
use Rattle.runs.specs.declared.call.Answer.{Answer}
use Rattle.runs.specs.declared.call.Answer.TheVariants as answers
use Rattle.runs.specs.declared.call.Exchange.{Exchange}
use Rattle.runs.specs.Calls.{answer_as, answer_to, answered}
use Rattle.runs.specs.Law.{come_to, Moment}

module _ {Q : Type 0} where
  -- the calls and the answers of a list of exchanges
  abbrev pub calls_of : List (Exchange Q) → List Call
  calls_of xs = map (λ x. x.call) xs

  abbrev pub answers_of : List (Exchange Q) → List (Option (Result (Answer Q) BookFault))
  answers_of xs = map (λ x. x.answer) xs

module _ {Q : Type 0} (number : Q → ℤ) (read : ℤ → Option Q) (no_worse : Q → Q → Bool) (share : List ℕ → ℕ → List ℕ) where
  -- the sheet after one call; questions leave it
  abbrev pub sheet_with : Sheet Q → Call → Sheet Q
  sheet_with s (call.Put e one other) = (step number read no_worse share one other s e).0
  sheet_with s call.Count = s
  sheet_with s call.Placed = s
  sheet_with s call.CutOff = s
  sheet_with s (call.Allotment n) = s
  sheet_with s (call.Outcome n) = s

  -- after a list of calls, the first call first
  abbrev pub sheet_after : Sheet Q → List Call → Sheet Q
  sheet_after s [] = s
  sheet_after s (c ∷ calls) = sheet_after (sheet_with s c) calls

  -- what a book answers by its rows
  abbrev pub sheet_answer : Sheet Q → Call → Result (Answer Q) BookFault
  sheet_answer s (call.Put e one other) = answer_as answers.Accepted (step number read no_worse share one other s e).1
  sheet_answer s call.Count = Ok (answers.Count (sheet_count s))
  sheet_answer s call.Placed = Ok (answers.Placed (sheet_placed s))
  sheet_answer s call.CutOff = Ok (answers.CutOff (sheet_cut read s))
  sheet_answer s (call.Allotment n) = answer_as answers.Allotment (sheet_allotment read s n)
  sheet_answer s (call.Outcome n) = answer_as answers.Outcome (sheet_outcome read no_worse s n)

  -- an exchange with the answer to its call beside it
  abbrev pub exchange_by : Sheet Q → Exchange Q → Exchange Q
  exchange_by s x = record { call = x.call; answer = Some (sheet_answer s x.call) }

  -- A run: a book is opened on the notice over the rows, and each call is made in turn.
  pub record RunLaw (notice : Notice) (rows : List (Row Q)) (exchanges : List (Exchange Q)) (rows_after : List (Row Q)) (exchanges_after : List (Exchange Q)) : Type 0 where
    -- The calls stay as they were,
    pub same_calls : calls_of exchanges_after ≡ calls_of exchanges
    -- and each is answered by the rules, in turn:
    pub answers : answers_of exchanges_after ≡ map Some (answered read no_worse share notice (length rows) opening_past (calls_of exchanges))
    -- the answer beside a call follows from the notice, the count of rows and the calls before it. An event is accepted exactly if the table has
    -- no ground against it, and otherwise refused with the first; a question is answered by what the accepted calls before it come to.
    pub each_answer :
        (before : List Call) (c : Call) (after : List Call) (none : Option (Result (Answer Q) BookFault)) → calls_of exchanges ≡ before ++ c ∷ after
        → slice_index_or (answers_of exchanges_after) (length before) none
        ≡ Some (answer_to read no_worse share notice (length rows) (come_to read no_worse share notice (length rows) before) c)
    -- The law holds at each moment of the run.
    pub law : (before after : List Call) → calls_of exchanges ≡ before ++ after → Moment read no_worse share notice (length rows) before
    -- The rows are those of the book after its last call:
    pub rows_are : rows_after ≡ (sheet_after (opened notice rows) (calls_of exchanges)).rows
    -- as many as bids were entered are used, from the first, and those that stand hold the standing bids in the order of their arrival.
    pub rows_stand :
        standing (take (come_to read no_worse share notice (length rows) (calls_of exchanges)).entered rows_after)
        ≡ (come_to read no_worse share notice (length rows) (calls_of exchanges)).standing
