-- A run of calls: what each is answered, and what the accepted ones come to.
use Rattle.std.specs.Prelude.{ℕ, Bool, List, [], ◌∷◌, ℤ, Some, None, Ok, Err, Option, Result}
use Rattle.terms.specs.declared.notice.Notice.{Notice}
use Rattle.terms.specs.Grounds.{first}
use Rattle.book.specs.declared.event.Event.{Event}
use Rattle.book.specs.declared.fault.BookFault.{BookFault}
use Rattle.book.specs.Table.{Past, grounds, answer, next}
use Rattle.book.specs.Questions.{count_told, placed_told, cut_told, allotment_told, outcome_told}
use Rattle.runs.specs.declared.call.Call.{Call}
use Rattle.runs.specs.declared.call.Call.TheVariants as call
use Rattle.runs.specs.declared.call.Answer.{Answer}
use Rattle.runs.specs.declared.call.Answer.TheVariants as answers

-- the answer to an event
abbrev pub event_answer : {Q : Type 0} → ℕ → Option BookFault → Result (Answer Q) BookFault
event_answer n None = Ok (answers.Accepted n)
event_answer n (Some f) = Err f

-- what a book tells, as an answer of a kind; a refusal stays
abbrev pub answer_as : {A Q : Type 0} → (A → Answer Q) → Result A BookFault → Result (Answer Q) BookFault
answer_as kind (Ok x) = Ok (kind x)
answer_as kind (Err f) = Err f

-- a refused event leaves what the accepted ones come to
abbrev pub accepted_next : {Q : Type 0} → Option BookFault → Past Q → Past Q → Past Q
accepted_next None p after = after
accepted_next (Some f) p after = p

module _ {Q : Type 0} (read : ℤ → Option Q) (no_worse : Q → Q → Bool) (share : List ℕ → ℕ → List ℕ) (notice : Notice) (table : ℕ) where
  -- the refusal of an event by the table, judged on what the calls before it come to
  abbrev pub refusal : Past Q → ℕ → ℕ → Event → Option BookFault
  refusal p one other e = first (grounds read notice table p one other e)

  -- what a call is answered
  abbrev pub answer_to : Past Q → Call → Result (Answer Q) BookFault
  answer_to p (call.Put e one other) = event_answer (answer read notice table p e) (refusal p one other e)
  answer_to p call.Count = Ok (answers.Count (count_told p))
  answer_to p call.Placed = Ok (answers.Placed (placed_told no_worse share notice p))
  answer_to p call.CutOff = Ok (answers.CutOff (cut_told no_worse share notice p))
  answer_to p (call.Allotment n) = answer_as answers.Allotment (allotment_told no_worse share notice p n)
  answer_to p (call.Outcome n) = answer_as answers.Outcome (outcome_told no_worse share notice p n)

  -- what the accepted calls come to after one more call
  abbrev pub past_with : Past Q → Call → Past Q
  past_with p (call.Put e one other) = accepted_next (refusal p one other e) p (next read notice table p e)
  past_with p call.Count = p
  past_with p call.Placed = p
  past_with p call.CutOff = p
  past_with p (call.Allotment n) = p
  past_with p (call.Outcome n) = p

  -- after a list of calls, the first call first
  abbrev pub past_after : Past Q → List Call → Past Q
  past_after p [] = p
  past_after p (c ∷ calls) = past_after (past_with p c) calls

  -- what each of a list of calls is answered
  abbrev pub answered : Past Q → List Call → List (Result (Answer Q) BookFault)
  answered p [] = []
  answered p (c ∷ calls) = answer_to p c ∷ answered (past_with p c) calls
