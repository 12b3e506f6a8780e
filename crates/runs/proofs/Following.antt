-- Each call takes a sheet on, and what the accepted calls come to; its answer is the one by the rules.
use Rattle.std.proofs.Common.{◌≡◌, ℕ, Bool, List, length, ℤ, Some, None, Ok, Option, Result, refl, ap}
use Rattle.terms.specs.Quotes.{Lawful}
use Rattle.terms.specs.Grounds.{first}
use Rattle.book.specs.declared.event.Event.{Event}
use Rattle.book.specs.declared.event.Event.TheVariants.{Entry, Change, Withdrawal, Close, Limit}
use Rattle.book.specs.declared.fault.BookFault.{BookFault}
use Rattle.book.specs.Table.{Past, grounds, answer, next}
use Rattle.book.specs.Sheets.{Sheet, past_of}
use Rattle.book.specs.Steps.{effect, judged}
use Rattle.runs.specs.declared.call.Call.{Call}
use Rattle.runs.specs.declared.call.Call.TheVariants as call
use Rattle.runs.specs.declared.call.Answer.{Answer}
use Rattle.runs.specs.declared.call.Answer.TheVariants as answers
use Rattle.runs.specs.Calls.{event_answer, answer_as, accepted_next, answer_to, past_with}
use Rattle.runs.specs.Runs.{sheet_with, sheet_answer}
use Rattle.runs.proofs.Kept.{Kept, Follows, TakesOn}
use Rattle.runs.proofs.Taking.{entry_follows, change_follows, withdrawal_follows, close_follows}
use Rattle.runs.proofs.Awarding.{limit_follows}

module _ {Q : Type 0} (number : Q → ℤ) (read : ℤ → Option Q) (no_worse : Q → Q → Bool) (share : List ℕ → ℕ → List ℕ)
    {low high : ℤ} (kind : Lawful number low high no_worse read) (s : Sheet Q) (k : Kept number read no_worse share s) where
  pub event_follows : (e : Event) → TakesOn number read no_worse share s e
  event_follows (Entry e) = entry_follows number read no_worse share s k e.series e.house e.second e.quote e.lots
  event_follows (Change e) = change_follows number read no_worse share s k e.number e.house e.second e.quote e.lots
  event_follows (Withdrawal e) = withdrawal_follows number read no_worse share s k e.number e.house e.second
  event_follows (Close second) = close_follows number read no_worse share s k second
  event_follows (Limit quote) = limit_follows number read no_worse share kind s k quote

  unmoved : Follows number read no_worse share s s (past_of read s)
  unmoved = record { kept = k; same = refl; notice = refl; long = refl }

  -- a call, accepted or refused
  judged_follows : (o : Option BookFault) (after : Sheet Q) (p : Past Q) (n : ℕ) → (o ≡ None → Follows number read no_worse share s after p)
      → Follows number read no_worse share s (judged o s after n).0 (accepted_next o (past_of read s) p)
  judged_follows None after p n h = h refl
  judged_follows (Some f) after p n h = unmoved

  pub call_follows : (c : Call)
      → Follows number read no_worse share s (sheet_with number read no_worse share s c) (past_with read no_worse share s.notice (length s.rows) (past_of read s) c)
  call_follows (call.Put e one other) =
      judged_follows (first (grounds read s.notice (length s.rows) (past_of read s) one other e)) (effect number read no_worse share s e)
      (next read s.notice (length s.rows) (past_of read s) e) (answer read s.notice (length s.rows) (past_of read s) e) (λ free. event_follows e one other free)
  call_follows call.Count = unmoved
  call_follows call.Placed = unmoved
  call_follows call.CutOff = unmoved
  call_follows (call.Allotment n) = unmoved
  call_follows (call.Outcome n) = unmoved

  -- its answer is the one by the rules
  put_is : (o : Option BookFault) (after : Sheet Q) (n : ℕ) → ◌≡◌ {A = Result (Answer Q) BookFault} (answer_as answers.Accepted (judged o s after n).1) (event_answer n o)
  put_is None after n = refl
  put_is (Some f) after n = refl

  pub answer_follows : (c : Call)
      → sheet_answer number read no_worse share s c ≡ answer_to read no_worse share s.notice (length s.rows) (past_of read s) c
  answer_follows (call.Put e one other) =
      put_is (first (grounds read s.notice (length s.rows) (past_of read s) one other e)) (effect number read no_worse share s e)
      (answer read s.notice (length s.rows) (past_of read s) e)
  answer_follows call.Count = refl
  answer_follows call.Placed = ap (λ x. Ok (answers.Placed x)) k.tells.placed
  answer_follows call.CutOff = ap (λ x. Ok (answers.CutOff x)) k.tells.cut
  answer_follows (call.Allotment n) = ap (answer_as answers.Allotment) (k.tells.allotment n)
  answer_follows (call.Outcome n) = ap (answer_as answers.Outcome) (k.tells.outcome n)
