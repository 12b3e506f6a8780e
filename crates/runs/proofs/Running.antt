-- A whole run: the answers of the book are those of the rules, and the law holds at each moment.
use Rattle.std.proofs.Common.{◌≡◌, ℕ, Bool, true, List, [], ◌∷◌, ◌++◌, length, get_or, map, take, ℤ, Some, Option, Result, sym, refl, ap, ◌∙◌, subst, arith}
use Rattle.std.proofs.lemmas.Bool.{and_from}
use Rattle.std.proofs.lemmas.Bool.Decides.{nat_tests}
use Rattle.terms.specs.declared.notice.Notice.{Notice}
use Rattle.terms.specs.declared.checked.CheckedNotice.{CheckedNotice}
use Rattle.terms.specs.Quotes.{Lawful}
use Rattle.terms.specs.Sharing.{Fair, few, lots_fit}
use Rattle.terms.specs.Notices.{notice_fits, numbers_fit, series_fits}
use Rattle.award.specs.declared.row.Row.{Row}
use Rattle.award.specs.Rows.{standing}
use Rattle.book.specs.declared.fault.BookFault.{BookFault}
use Rattle.book.specs.Table.{Past, opening_past}
use Rattle.book.specs.Sheets.{Sheet, past_of, opened}
use Rattle.runs.specs.declared.call.Call.{Call}
use Rattle.runs.specs.declared.call.Answer.{Answer}
use Rattle.runs.specs.declared.call.Exchange.{Exchange}
use Rattle.runs.specs.Calls.{past_with, past_after, answer_to, answered}
use Rattle.runs.specs.Runs.{sheet_with, sheet_after, calls_of, answers_of, RunLaw}
use Rattle.runs.proofs.Moments.{moment}
use Rattle.runs.proofs.Looping.{exchanged}
use Rattle.runs.proofs.Kept.{Kept, Follows, opened_kept}
use Rattle.runs.proofs.Following.{call_follows, answer_follows}

-- a checked notice keeps the rules
pub checked_fits : (c : CheckedNotice) → notice_fits c.notice ≡ true
checked_fits c =
    let n = c.notice in
    let o = c.offer in
    let m = c.minimum in
    let l = c.placement in
    let b = c.number in
    let t = c.seconds in
    let numbers : numbers_fit n ≡ true = grind (arith, nat_tests) in
    and_from (series_fits n.series) (numbers_fit n) c.series numbers

-- the answer to a call, by the calls before it
answered_at : {Q : Type 0} (read : ℤ → Option Q) (no_worse : Q → Q → Bool) (share : List ℕ → ℕ → List ℕ) (notice : Notice) (table : ℕ)
    (before : List Call) (c : Call) (after : List Call) (unmade : Option (Result (Answer Q) BookFault)) (p : Past Q)
    → get_or (map Some (answered read no_worse share notice table p (before ++ c ∷ after))) (length before) unmade
    ≡ Some (answer_to read no_worse share notice table (past_after read no_worse share notice table p before) c)
answered_at read no_worse share notice table [] c after unmade p = refl
answered_at read no_worse share notice table (b ∷ before) c after unmade p =
    answered_at read no_worse share notice table before c after unmade (past_with read no_worse share notice table p b)

module _ {Q : Type 0} (number : Q → ℤ) (read : ℤ → Option Q) (no_worse : Q → Q → Bool) (share : List ℕ → ℕ → List ℕ) where
  -- the calls stay
  pub exchanged_calls : (xs : List (Exchange Q)) (s : Sheet Q)
      → calls_of (exchanged number read no_worse share s xs) ≡ calls_of xs
  exchanged_calls [] s = refl
  exchanged_calls (x ∷ xs) s = ap (λ cs. x.call ∷ cs) (exchanged_calls xs (sheet_with number read no_worse share s x.call))

  module _ {low high : ℤ} (kind : Lawful number low high no_worse read) where
    -- the answers are those of the rules
    pub exchanged_answers : (xs : List (Exchange Q)) (s : Sheet Q) → Kept number read no_worse share s
        → answers_of (exchanged number read no_worse share s xs)
        ≡ map Some (answered read no_worse share s.notice (length s.rows) (past_of read s) (calls_of xs))
    exchanged_answers [] s k = refl
    exchanged_answers (x ∷ xs) s k =
        let f = call_follows number read no_worse share kind s k x.call in
        let after = sheet_with number read no_worse share s x.call in
        let calls = calls_of xs in
        ap
        (λ a. Some a ∷ answers_of (exchanged number read no_worse share after xs))
        (answer_follows number read no_worse share kind s k x.call)
        ∙ ap
        (λ rest. Some (answer_to read no_worse share s.notice (length s.rows) (past_of read s) x.call) ∷ rest)
        (exchanged_answers xs after f.kept
        ∙ ap (λ n. map Some (answered read no_worse share n (length after.rows) (past_of read after) calls)) f.notice
        ∙ ap (λ t. map Some (answered read no_worse share s.notice t (past_of read after) calls)) f.long
        ∙ ap (λ p. map Some (answered read no_worse share s.notice (length s.rows) p calls)) f.same)

    -- the sheet after a run comes to what the accepted calls come to
    pub run_follows : (calls : List Call) (s : Sheet Q) → Kept number read no_worse share s
        → Follows number read no_worse share s (sheet_after number read no_worse share s calls)
        (past_after read no_worse share s.notice (length s.rows) (past_of read s) calls)
    run_follows [] s k = record { kept = k; same = refl; notice = refl; long = refl }
    run_follows (c ∷ calls) s k =
        let f = call_follows number read no_worse share kind s k c in
        let after = sheet_with number read no_worse share s c in
        let more = run_follows calls after f.kept in
        record {
          kept = more.kept;
          same =
              more.same
              ∙ ap (λ n. past_after read no_worse share n (length after.rows) (past_of read after) calls) f.notice
              ∙ ap (λ t. past_after read no_worse share s.notice t (past_of read after) calls) f.long
              ∙ ap (λ p. past_after read no_worse share s.notice (length s.rows) p calls) f.same;
          notice = more.notice ∙ f.notice;
          long = more.long ∙ f.long;
        }

    module _ (fair : (ds : List ℕ) (s : ℕ) → lots_fit ds s ≡ true → few ds ≡ true → Fair ds s (share ds s)) (notice : Notice) (fits : notice_fits notice ≡ true)
        (rows : List (Row Q)) (xs : List (Exchange Q)) where
      -- the sheet at the end
      abbrev end : Sheet Q
      end = sheet_after number read no_worse share (opened notice rows) (calls_of xs)

      law_at_end : RunLaw number read no_worse share notice rows xs end.rows (exchanged number read no_worse share (opened notice rows) xs)
      law_at_end =
          let start = opened_kept number read no_worse share notice rows in
          let answers = exchanged_answers xs (opened notice rows) start in
          let same = (run_follows (calls_of xs) (opened notice rows) start).same in
          record {
            same_calls = exchanged_calls xs (opened notice rows);
            answers = answers;
            each_answer = λ before c after none is.
                ap (λ ys. get_or ys (length before) none) (answers ∙ ap (λ calls. map Some (answered read no_worse share notice (length rows) opening_past calls)) is)
                ∙ answered_at read no_worse share notice (length rows) before c after none opening_past;
            law = λ before after is. moment read no_worse share notice (length rows) kind fair fits before;
            rows_are = refl;
            rows_stand = ap (λ p. standing (take p.entered end.rows)) (sym same) ∙ ap (λ p. p.standing) same;
          }

      -- the law of a run that left such exchanges and rows
      pub run_law : (rows_after : List (Row Q)) (xs_after : List (Exchange Q)) → rows_after ≡ end.rows
          → xs_after ≡ exchanged number read no_worse share (opened notice rows) xs → RunLaw number read no_worse share notice rows xs rows_after xs_after
      run_law rows_after xs_after kept made =
          subst (λ r. RunLaw number read no_worse share notice rows xs r xs_after) (sym kept)
          (subst (λ ys. RunLaw number read no_worse share notice rows xs end.rows ys) (sym made) law_at_end)
