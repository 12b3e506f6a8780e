-- Entries, changes, withdrawals and the close take a sheet on, and what the accepted calls come to.
use Rattle.std.proofs.Common.{◌≡◌, ℕ, ◌+◌, ◌<◌, ◌≤◌, min, Bool, true, false, ◌≢◌, List, [], ◌∷◌, ◌++◌, length, ℤ, is_some, Some, None, Option, sym, refl, ap, ◌∙◌, arith}
use Rattle.std.proofs.lemmas.Option.{none-some}
use Rattle.std.specs.List.{AllByRecursion as All}
use Rattle.std.proofs.ByRecursion.{All-push, All-weaker}
use Rattle.std.proofs.lemmas.List.{length_push}
use Rattle.std.proofs.lemmas.Bool.{leb-false, not-false}
use Rattle.award.specs.declared.row.Row.{Row}
use Rattle.award.specs.Rows.{standing}
use Rattle.book.specs.declared.event.Event.TheVariants.{Entry, Change, Withdrawal, Close}
use Rattle.book.specs.Table.{awaiting_limit, takes_bids, is_decided, bid_of, without, one_bid, grounds}
use Rattle.book.specs.Sheets.{Sheet, in_use, phase_of, limit_of, past_of}
use Rattle.book.specs.Steps.{new_row, without_row, withdrawn_in, with_entry, with_change, with_withdrawal, with_close}
use Rattle.runs.proofs.Grounds.{some_is, first_none}
use Rattle.runs.proofs.Bids.{found_all}
use Rattle.runs.proofs.Coherent.{open_undecided}
use Rattle.runs.proofs.Rows.{standing_append, standing_numbers, standing_moved, standing_withdrawn, all_moved, all_withdrawn, apart_moved, apart_withdrawn, apart_push, length_withdrawn, length_moved, others_moved}
use Rattle.runs.proofs.Kept.{no_limit, in_use_with, length_with, in_use_long, Kept, fresh_tells, Follows, taking, TakesOn}

module _ {Q : Type 0} (number : Q → ℤ) (read : ℤ → Option Q) (no_worse : Q → Q → Bool) (share : List ℕ → ℕ → List ℕ) (s : Sheet Q) (k : Kept number read no_worse share s) where
  pub entry_follows : (series : List ℕ) (house second : ℕ) (quote : ℤ) (lots : ℕ) → TakesOn number read no_worse share s (Entry (record { series = series; house = house; second = second; quote = quote; lots = lots }))
  entry_follows series house second quote lots one other free =
      let f = first_none (grounds read s.notice (length s.rows) (past_of read s) one other (Entry (record { series = series; house = house; second = second; quote = quote; lots = lots }))) free in
      let early = open_undecided (phase_of s.state) (not-false (takes_bids (phase_of s.state)) f.0) in
      let ok = some_is (read quote) (not-false (is_some (read quote)) f.1.1.1.0) in
      let room : s.used < min (length s.rows) 4_096 = leb-false (min (length s.rows) 4_096) s.used f.1.1.1.1.1.1.0 in
      by_quote (read quote) ok.0 ok.1 early room
    where
      by_quote : (o : Option Q) (q : Q) → o ≡ Some q → is_decided (phase_of s.state) ≡ false → s.used < min (length s.rows) 4_096
          → Follows number read no_worse share s (with_entry s house second lots o)
          (record {
            phase = phase_of s.state;
            standing = standing (in_use s) ++ one_bid (s.used + 1) house lots o;
            entered = s.used + 1;
            arrivals = s.arrivals + 1;
            last = second;
            limit = limit_of read s.state;
          })
      by_quote None q e early room = absurd (none-some q e)
      by_quote (Some a) q e early room =
          let r = new_row (s.used + 1) house a lots in
          let used = in_use s ++ r ∷ [] in
          let long : length used ≡ s.used + 1 = length_push (in_use s) r ∙ ap (λ n. n + 1) (in_use_long s k.fit) in
          let is = in_use_with used s.rows (s.used + 1) long in
          let total = length_with used s.rows (s.used + 1) long (omega arith) in
          let f = k.fresh early in
          let after = with_entry s house second lots (Some a) in
          record {
            kept =
                taking number read no_worse share s after used early refl is
                (record {
                  apart = apart_push (in_use s) r f.apart (All-weaker (λ r. r.number ≤ s.used) (λ x. x.number ≢ s.used + 1) (λ x h e. omega arith) (in_use s) f.numbers);
                  numbers = All-push (λ r. r.number ≤ s.used + 1) (in_use s) r (All-weaker (λ r. r.number ≤ s.used) (λ r. r.number ≤ s.used + 1) (λ x h. omega arith) (in_use s) f.numbers) (omega arith);
                  untouched = All-push (λ r. r.allotted ≡ 0) (in_use s) r f.untouched refl;
                })
                (omega arith) (omega arith);
            same =
                ap
                (λ bids. record { phase = phase_of s.state; standing = bids; entered = s.used + 1; arrivals = s.arrivals + 1; last = second; limit = limit_of read s.state })
                (ap standing is ∙ standing_append (in_use s) (r ∷ []));
            notice = refl;
            long = total;
          }

  pub change_follows : (n house second : ℕ) (quote : ℤ) (lots : ℕ) → TakesOn number read no_worse share s (Change (record { number = n; house = house; second = second; quote = quote; lots = lots }))
  change_follows n house second quote lots one other free =
      let f = first_none (grounds read s.notice (length s.rows) (past_of read s) one other (Change (record { number = n; house = house; second = second; quote = quote; lots = lots }))) free in
      let early = open_undecided (phase_of s.state) (not-false (takes_bids (phase_of s.state)) f.0) in
      let ok = some_is (read quote) (not-false (is_some (read quote)) f.1.1.0) in
      let stands = not-false (is_some (bid_of n (standing (in_use s)))) f.1.1.1.1.0 in
      by_quote (read quote) ok.0 ok.1 early stands
    where
      by_quote : (o : Option Q) (q : Q) → o ≡ Some q → is_decided (phase_of s.state) ≡ false → is_some (bid_of n (standing (in_use s))) ≡ true
          → Follows number read no_worse share s (with_change s n house second lots o)
          (record {
            phase = phase_of s.state;
            standing = without n (standing (in_use s)) ++ one_bid n house lots o;
            entered = s.used;
            arrivals = s.arrivals + 1;
            last = second;
            limit = limit_of read s.state;
          })
      by_quote None q e early stands = absurd (none-some q e)
      by_quote (Some a) q e early stands =
          let r = new_row n house a lots in
          let left = without_row n (in_use s) in
          let used = left ++ r ∷ [] in
          let long : length used ≡ s.used = length_push left r ∙ length_moved n (in_use s) stands ∙ in_use_long s k.fit in
          let is = in_use_with used s.rows s.used long in
          let total = length_with used s.rows s.used long k.fit in
          let f = k.fresh early in
          record {
            kept =
                taking number read no_worse share s (with_change s n house second lots (Some a)) used early refl is
                (record {
                  apart = apart_push left r (apart_moved n (in_use s) f.apart) (others_moved n (in_use s) f.apart stands);
                  numbers = All-push (λ r. r.number ≤ s.used) left r (all_moved n (λ r. r.number ≤ s.used) (in_use s) f.numbers) (number_in_use (in_use s) f.numbers stands);
                  untouched = All-push (λ r. r.allotted ≡ 0) left r (all_moved n (λ r. r.allotted ≡ 0) (in_use s) f.untouched) refl;
                })
                (omega (arith, k.fit)) k.few;
            same =
                ap
                (λ bids. record { phase = phase_of s.state; standing = bids; entered = s.used; arrivals = s.arrivals + 1; last = second; limit = limit_of read s.state })
                (ap standing is ∙ standing_append left (r ∷ []) ∙ ap (λ bids. bids ++ one_bid n house lots (Some a)) (standing_moved n (in_use s) f.apart));
            notice = refl;
            long = total;
          }
        where
          -- a number under which a bid stands is a row's
          number_in_use : (rows : List (Row Q)) → All (λ r. r.number ≤ s.used) rows → is_some (bid_of n (standing rows)) ≡ true → n ≤ s.used
          number_in_use rows h some =
              let found = some_is (bid_of n (standing rows)) some in
              let is = found_all (λ b. b.number ≤ s.used) n found.0 (standing rows) (standing_numbers (λ m. m ≤ s.used) rows h) found.1 in
              omega (arith, is.0, is.1)

  pub withdrawal_follows : (n house second : ℕ) → TakesOn number read no_worse share s (Withdrawal (record { number = n; house = house; second = second }))
  withdrawal_follows n house second one other free =
      let f = first_none (grounds read s.notice (length s.rows) (past_of read s) one other (Withdrawal (record { number = n; house = house; second = second }))) free in
      let early = open_undecided (phase_of s.state) (not-false (takes_bids (phase_of s.state)) f.0) in
      let used = withdrawn_in n (in_use s) in
      let long : length used ≡ s.used = length_withdrawn n (in_use s) ∙ in_use_long s k.fit in
      let is = in_use_with used s.rows s.used long in
      let total = length_with used s.rows s.used long k.fit in
      let h = k.fresh early in
      record {
        kept =
            taking number read no_worse share s (with_withdrawal s n second) used early refl is
            (record {
              apart = apart_withdrawn n (in_use s) h.apart;
              numbers = all_withdrawn n (λ r. r.number ≤ s.used) (λ r x. x) (in_use s) h.numbers;
              untouched = all_withdrawn n (λ r. r.allotted ≡ 0) (λ r x. x) (in_use s) h.untouched;
            })
            (omega (arith, k.fit)) k.few;
        same =
            ap (λ bids. record { phase = phase_of s.state; standing = bids; entered = s.used; arrivals = s.arrivals; last = second; limit = limit_of read s.state })
            (ap standing is ∙ standing_withdrawn n (in_use s) h.apart);
        notice = refl;
        long = total;
      }

  pub close_follows : (second : ℕ) → TakesOn number read no_worse share s (Close second)
  close_follows second one other free =
      let f = first_none (grounds read s.notice (length s.rows) (past_of read s) one other (Close second)) free in
      let early = open_undecided (phase_of s.state) (not-false (takes_bids (phase_of s.state)) f.0) in
      let h = k.fresh early in
      record {
        kept = record { fit = k.fit; few = k.few; fresh = λ _. h; tells = fresh_tells number read no_worse share (with_close s) refl h };
        same =
            ap (λ o. record { phase = awaiting_limit; standing = standing (in_use s); entered = s.used; arrivals = s.arrivals; last = s.last; limit = o })
            (sym (no_limit read s.state early).0);
        notice = refl;
        long = refl;
      }
