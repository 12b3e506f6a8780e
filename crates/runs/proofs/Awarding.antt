-- The limit takes a sheet on, and what the accepted calls come to; the sheet then tells the award.
use Rattle.std.proofs.Common.{◌≡◌, ℕ, Bool, true, false, cond, List, length, ℤ, is_some, Some, None, sum_by, Option, sym, refl, ap, ◌∙◌, subst, arith}
use Rattle.std.proofs.lemmas.Option.{none-some}
use Rattle.std.proofs.lemmas.List.{length-take-le}
use Rattle.std.proofs.lemmas.Bool.{both_ways, not-false}
use Rattle.terms.specs.Quotes.{Lawful}
use Rattle.terms.specs.Grounds.{first}
use Rattle.award.specs.declared.row.Row.{Row}
use Rattle.award.specs.Award.{cut_off, allotments}
use Rattle.award.specs.Rows.{bid_in, standing, by_row, given_to}
use Rattle.award.proofs.Handing.{by_row_length}
use Rattle.book.specs.declared.event.Event.TheVariants.{Limit}
use Rattle.book.specs.declared.outcome.Outcome.TheVariants.{Out}
use Rattle.book.specs.Outcomes.{outcome_by}
use Rattle.book.specs.Table.{decided, awaits_limit, is_decided, was_given, grounds}
use Rattle.book.specs.Questions.{terms_of, placed_told, cut_told, lots_told, outcome_of, told_unless, number_grounds}
use Rattle.book.specs.Sheets.{Sheet, in_use, phase_of, limit_of, cut_of, past_of}
use Rattle.book.specs.Steps.{with_limit, state_by}
use Rattle.book.specs.Told.{row_of, allotted_in, sheet_cut, row_outcome}
use Rattle.runs.proofs.Grounds.{some_is, first_none}
use Rattle.runs.proofs.Coherent.{awaiting_undecided}
use Rattle.runs.proofs.Moments.{one_each}
use Rattle.runs.proofs.Rows.{RowsApart}
use Rattle.runs.proofs.Given.{length_given, given_in_use, standing_given, apart_given, allotted_is, placed_is, bid_standing, row_bid}
use Rattle.runs.proofs.Kept.{Kept, Follows, TakesOn}

module _ {Q : Type 0} (number : Q → ℤ) (read : ℤ → Option Q) (no_worse : Q → Q → Bool) (share : List ℕ → ℕ → List ℕ) where
  -- the outcome off a row is that of its bid
  outcome_off : (s : Sheet Q) (n : ℕ) → sheet_cut read s ≡ cut_told no_worse share s.notice (past_of read s) → (o : Option (Row Q))
      → allotted_in o ≡ lots_told no_worse share s.notice (past_of read s) n
      → row_outcome read no_worse s o ≡ outcome_of no_worse share s.notice (past_of read s) n (bid_standing o)
  outcome_off s n cut None e = refl
  outcome_off s n cut (Some r) e = go r.standing
    where
      go : (v : Bool)
          → cond v (outcome_by no_worse (limit_of read s.state) (sheet_cut read s) r.quote r.lots r.allotted) Out
          ≡ outcome_of no_worse share s.notice (past_of read s) n (cond v (Some (bid_in r)) None)
      go true =
          ap (λ c. outcome_by no_worse (limit_of read s.state) c r.quote r.lots r.allotted) cut
          ∙ ap (outcome_by no_worse (limit_of read s.state) (cut_told no_worse share s.notice (past_of read s)) r.quote r.lots) e
      go false = refl

  module _ {low high : ℤ} (kind : Lawful number low high no_worse read) where
    -- the number of a quote is read as that quote
    read_back : (q : Q) → read (number q) ≡ Some q
    read_back q =
        let is = some_is (read (number q)) (kind.reads (number q) ∙ kind.within q) in
        is.1 ∙ ap Some (kind.same_quote is.0 q (kind.gives_back (number q) is.0 is.1))

    -- the state after an award tells limit and cut-off
    state_phase : (limit : Q) (o : Option Q) → phase_of (state_by number limit o) ≡ decided
    state_phase limit o = refl

    state_limit : (limit : Q) (o : Option Q) → limit_of read (state_by number limit o) ≡ Some limit
    state_limit limit o = read_back limit

    state_cut : (limit : Q) (o : Option Q) → cut_of read (state_by number limit o) ≡ o
    state_cut limit None = refl
    state_cut limit (Some cut) = read_back cut

    module _ (s : Sheet Q) (k : Kept number read no_worse share s) where
      awarded : (limit : Q) → is_decided (phase_of s.state) ≡ false
          → Follows number read no_worse share s (with_limit number read no_worse share s (Some limit))
          (record { phase = decided; standing = standing (in_use s); entered = s.used; arrivals = s.arrivals; last = s.last; limit = Some limit })
      awarded limit early =
          let t = terms_of s.notice in
          let bids = standing (in_use s) in
          let xs = allotments no_worse share t limit bids in
          let lots = by_row (in_use s) xs in
          let cut = cut_off no_worse t limit bids in
          let after = with_limit number read no_worse share s (Some limit) in
          let f = k.fresh early in
          let is : in_use after ≡ given_to (in_use s) lots =
          given_in_use s.used s.rows lots k.fit (by_row_length (in_use s) xs ∙ length-take-le s.used s.rows k.fit) in
          let total : length (given_to s.rows lots) ≡ length s.rows = length_given s.rows lots in
          let same : past_of read after ≡ record { phase = decided; standing = bids; entered = s.used; arrivals = s.arrivals; last = s.last; limit = Some limit } =
          ap (λ ph. record { phase = ph; standing = standing (in_use after); entered = s.used; arrivals = s.arrivals; last = s.last; limit = limit_of read after.state }) (state_phase limit cut)
          ∙ ap (λ bs. record { phase = decided; standing = bs; entered = s.used; arrivals = s.arrivals; last = s.last; limit = limit_of read after.state }) (ap standing is ∙ standing_given (in_use s) lots)
          ∙ ap (λ o. record { phase = decided; standing = bids; entered = s.used; arrivals = s.arrivals; last = s.last; limit = o }) (state_limit limit cut) in
          let cut_is : sheet_cut read after ≡ cut_told no_worse share s.notice (past_of read after) =
          state_cut limit cut ∙ sym (ap (cut_told no_worse share s.notice) same) in
          let lots_are : (n : ℕ) → allotted_in (row_of n (in_use after)) ≡ lots_told no_worse share s.notice (past_of read after) n =
          λ n. ap (λ rows. allotted_in (row_of n rows)) is ∙ allotted_is n (in_use s) xs f.apart ∙ sym (ap (λ p. lots_told no_worse share s.notice p n) same) in
          let apart : RowsApart (in_use after) = subst RowsApart (sym is) (apart_given (in_use s) lots f.apart) in
          record {
            kept =
                record {
                  fit = omega (arith, k.fit);
                  few = k.few;
                  fresh = λ e. absurd (both_ways (is_decided (phase_of after.state)) e (ap is_decided (state_phase limit cut)));
                  tells =
                      record {
                        placed = ap (sum_by (λ r. r.allotted)) is ∙ placed_is (in_use s) xs (one_each no_worse share t limit bids) ∙ sym (ap (placed_told no_worse share s.notice) same);
                        cut = cut_is;
                        allotment = λ n. ap (told_unless (first (number_grounds (phase_of after.state) (was_given (past_of read after) n)))) (lots_are n);
                        outcome = λ n.
                            ap (told_unless (first (number_grounds (phase_of after.state) (was_given (past_of read after) n))))
                            (outcome_off after n cut_is (row_of n (in_use after)) (lots_are n)
                            ∙ ap (outcome_of no_worse share s.notice (past_of read after) n) (sym (row_bid n (in_use after) apart)));
                      };
                };
            same = same;
            notice = refl;
            long = total;
          }

      pub limit_follows : (quote : ℤ) → TakesOn number read no_worse share s (Limit quote)
      limit_follows quote one other free =
          let f = first_none (grounds read s.notice (length s.rows) (past_of read s) one other (Limit quote)) free in
          let ok = some_is (read quote) (not-false (is_some (read quote)) f.1.0) in
          by_quote (read quote) ok.0 ok.1 (awaiting_undecided (phase_of s.state) (not-false (awaits_limit (phase_of s.state)) f.0))
        where
          by_quote : (o : Option Q) (q : Q) → o ≡ Some q → is_decided (phase_of s.state) ≡ false
              → Follows number read no_worse share s (with_limit number read no_worse share s o)
              (record { phase = decided; standing = standing (in_use s); entered = s.used; arrivals = s.arrivals; last = s.last; limit = o })
          by_quote None q e early = absurd (none-some q e)
          by_quote (Some a) q e early = awarded a early
