-- The law at each moment of a run.
use Rattle.std.proofs.Common.{◌≡◌, ℕ, suc, ◌≤◌, Bool, true, false, cond, not, ltb, List, [], ◌∷◌, ◌++◌, length, ℤ, is_some, Some, None, Ok, Err, is_err, Option, sym, refl, ap, ◌∙◌, subst, arith}
use Rattle.std.proofs.lemmas.List.{length-map}
use Rattle.std.proofs.lemmas.Bool.{and_parts, both_ways, cond_both, not_from_false, not-true}
use Rattle.terms.specs.declared.notice.Notice.{Notice}
use Rattle.terms.specs.Quotes.{Lawful}
use Rattle.terms.specs.Sharing.{Fair, few, lots_fit}
use Rattle.terms.specs.Notices.{notice_fits, numbers_fit, series_fits}
use Rattle.terms.specs.Grounds.{first}
use Rattle.terms.proofs.Noticing.{offer_kept, placement_kept}
use Rattle.award.specs.declared.reckoning.Reckoning.{Reckoning}
use Rattle.award.specs.declared.reckoning.Reckoning.TheVariants.{Void, Everyone, Divided}
use Rattle.award.specs.Award.{Bid, Terms, next, later, better, same, reckoned, dealt, demands_at, handed_out, allotments}
use Rattle.award.specs.Rivals.{Act, Sound}
use Rattle.award.proofs.Bettered.{cannot_be_bettered}
use Rattle.book.specs.declared.event.Event.{Event}
use Rattle.book.specs.declared.event.Event.TheVariants.{Entry, Change, Withdrawal, Close, Limit}
use Rattle.book.specs.declared.fault.BookFault.TheVariants.{NotInThisState, NoSuchBid}
use Rattle.book.specs.declared.outcome.Outcome.{Outcome}
use Rattle.book.specs.declared.outcome.Outcome.TheVariants as outcome
use Rattle.book.specs.Outcomes.{outcome_lots, outcome_by}
use Rattle.book.specs.Table.{Phase, is_decided, Past, opening_past, was_given, bid_of, grounds}
use Rattle.book.specs.Table as rules
use Rattle.book.specs.Questions.{told_unless, number_grounds, terms_of, cut_by, placed_by, lots_by, cut_told, placed_told, lots_told, outcome_of, outcome_told}
use Rattle.runs.specs.declared.call.Call.{Call}
use Rattle.runs.specs.declared.call.Call.TheVariants as call
use Rattle.runs.specs.Calls.{accepted_next, refusal, past_with, past_after}
use Rattle.runs.specs.Law.{up_to, Undecided, Decided, Moment}
use Rattle.runs.proofs.Grounds.{LedBy, first_led}
use Rattle.runs.proofs.Bids.{found_all, lots_withdrawn, up_to_all}
use Rattle.runs.proofs.Coherent.{Coherent, at_opening, decided_takes, after_coherent}

-- an allotment for each bid
module _ {Q : Type 0} (no_worse : Q → Q → Bool) where
  dealt_length : (cut : Q) (bids : List (Bid Q)) (shares : List ℕ) → length (dealt no_worse cut bids shares) ≡ length bids
  dealt_length cut [] shares = refl
  dealt_length cut (b ∷ bids) shares =
      cond_both (better no_worse b.quote cut) (b.lots ∷ dealt no_worse cut bids shares)
      (cond (same no_worse b.quote cut) (next shares ∷ dealt no_worse cut bids (later shares)) (0 ∷ dealt no_worse cut bids shares))
      (λ xs. length xs ≡ length (b ∷ bids))
      (λ _. ap suc (dealt_length cut bids shares))
      (λ _.
      cond_both (same no_worse b.quote cut) (next shares ∷ dealt no_worse cut bids (later shares)) (0 ∷ dealt no_worse cut bids shares)
      (λ xs. length xs ≡ length (b ∷ bids))
      (λ _. ap suc (dealt_length cut bids (later shares)))
      (λ _. ap suc (dealt_length cut bids shares)))

  module _ (share : List ℕ → ℕ → List ℕ) where
    handed_length : (limit : Q) (bids : List (Bid Q)) (r : Reckoning Q) → length (handed_out no_worse share limit bids r) ≡ length bids
    handed_length limit bids Void = length-map bids (λ b. 0)
    handed_length limit bids (Everyone cut) = length-map bids (λ b. cond (no_worse b.quote limit) b.lots 0)
    handed_length limit bids (Divided cut left) = dealt_length cut bids (share (demands_at no_worse cut bids) left)

    pub one_each : (t : Terms) (limit : Q) (bids : List (Bid Q)) → length (allotments no_worse share t limit bids) ≡ length bids
    one_each t limit bids = handed_length limit bids (reckoned no_worse t limit bids)

-- the question for a number, by the phase and by whether it was given
module _ {A : Type 0} (x : A) where
  pub told_early : (ph : Phase) (known : Bool) → is_decided ph ≡ false → told_unless (first (number_grounds ph known)) x ≡ Err NotInThisState
  told_early ph known e =
      ap (λ o. told_unless o x) (first_led NotInThisState (number_grounds ph known) (not_from_false (is_decided ph) e, refl))

  pub told_late : (ph : Phase) (known : Bool) → is_decided ph ≡ true → told_unless (first (number_grounds ph known)) x ≡ cond known (Ok x) (Err NoSuchBid)
  told_late ph known e =
      ap (λ v. told_unless (cond (not v) (Some NotInThisState) (cond (not known) (Some NoSuchBid) None)) x) e ∙ by_known known
    where
      by_known : (v : Bool) → told_unless (cond (not v) (Some NoSuchBid) None) x ≡ cond v (Ok x) (Err NoSuchBid)
      by_known true = refl
      by_known false = refl

module _ {Q : Type 0} (read : ℤ → Option Q) (no_worse : Q → Q → Bool) (share : List ℕ → ℕ → List ℕ) (notice : Notice) where
  -- while there is no limit
  pub undecided : (p : Past Q) → Coherent p → p.limit ≡ None → Undecided no_worse share notice p
  undecided p c none =
      let early : is_decided p.phase ≡ false = c.ended ∙ ap is_some none in
      record {
        no_cut = ap (cut_by no_worse share notice p.standing) none;
        nothing = ap (placed_by no_worse share notice p.standing) none;
        no_allotment = λ n. told_early (lots_told no_worse share notice p n) p.phase (was_given p n) early;
        no_outcome = λ n. told_early (outcome_of no_worse share notice p n (bid_of n p.standing)) p.phase (was_given p n) early;
      }

  module _ (fits : notice_fits notice ≡ true) where
    sound : (p : Past Q) → Coherent p → Sound (terms_of notice) p.standing
    sound p c =
        let f = sym (and_parts (series_fits notice.series) (numbers_fit notice) fits).1 in
        record {
          offer = (offer_kept notice f).1;
          least = (placement_kept notice f).0;
          few = omega (arith, c.bids.many, c.few);
          lots = c.bids.lots;
          apart = c.bids.apart;
        }

    module _ {number : Q → ℤ} {low high : ℤ} (kind : Lawful number low high no_worse read)
        (fair : (ds : List ℕ) (s : ℕ) → lots_fit ds s ≡ true → few ds ≡ true → Fair ds s (share ds s)) where
      -- once there is one
      module _ (p : Past Q) (c : Coherent p) (limit : Q) (is : p.limit ≡ Some limit) where
        abbrev given : ℕ → ℕ
        given = lots_told no_worse share notice p

        act : Act no_worse (terms_of notice) limit p.standing given (placed_told no_worse share notice p) (cut_told no_worse share notice p)
        act =
            subst (λ o. Act no_worse (terms_of notice) limit p.standing (lots_by no_worse share notice p.standing o) (placed_by no_worse share notice p.standing o) (cut_by no_worse share notice p.standing o))
            (sym is) (cannot_be_bettered kind (terms_of notice) limit p.standing (sound p c) fair)

        late : is_decided p.phase ≡ true
        late = c.ended ∙ ap is_some is

        none_withdrawn : (n : ℕ) → bid_of n p.standing ≡ None → given n ≡ 0
        none_withdrawn n e =
            ap (λ o. lots_by no_worse share notice p.standing o n) is
            ∙ lots_withdrawn n p.standing (allotments no_worse share (terms_of notice) limit p.standing) e

        -- the outcome of a standing bid has its lots
        standing_lots : (n : ℕ) (b : Bid Q) → bid_of n p.standing ≡ Some b → (cut : Option Q) → cut_told no_worse share notice p ≡ cut
            → outcome_lots (outcome_by no_worse (Some limit) cut b.quote b.lots (given n)) ≡ given n
        standing_lots n b found None void = sym ((act.voided void).no_lot n)
        standing_lots n b found (Some cut) awarded =
            let a = act.awarded cut awarded in
            let past = found_all (λ b. no_worse b.quote limit ≡ false → given b.number ≡ 0) n b p.standing a.rival.past found in
            let served = found_all (λ b. 1 ≤ given b.number → no_worse b.quote cut ≡ true) n b p.standing a.no_worse_served found in
            cond_both (not (no_worse b.quote limit)) outcome.Over
            (cond (not (no_worse b.quote cut)) outcome.Worse (cond (ltb (given n) b.lots) (outcome.Part (given n)) (outcome.Full (given n))))
            (λ o. outcome_lots o ≡ given n)
            (λ over. sym (ap given (sym past.1) ∙ past.0 (not-true (no_worse b.quote limit) over)))
            (λ _.
            cond_both (not (no_worse b.quote cut)) outcome.Worse (cond (ltb (given n) b.lots) (outcome.Part (given n)) (outcome.Full (given n)))
            (λ o. outcome_lots o ≡ given n)
            (λ worse. unserved (given n) (λ some. both_ways (no_worse b.quote cut) (not-true (no_worse b.quote cut) worse)
            (served.0 (subst (λ m. 1 ≤ given m) (sym served.1) some))))
            (λ _. cond_both (ltb (given n) b.lots) (outcome.Part (given n)) (outcome.Full (given n)) (λ o. outcome_lots o ≡ given n) (λ _. refl) (λ _. refl)))
          where
            unserved : (x : ℕ) → (1 ≤ x → ⊥) → 0 ≡ x
            unserved ℕ.zero h = refl
            unserved (suc x) h = absurd (h (omega arith))

        outcome_lots_are : (n : ℕ) (o : Option (Bid Q)) → bid_of n p.standing ≡ o → outcome_lots (outcome_of no_worse share notice p n o) ≡ given n
        outcome_lots_are n None e = sym (none_withdrawn n e)
        outcome_lots_are n (Some b) e =
            ap (λ l. outcome_lots (outcome_by no_worse l (cut_told no_worse share notice p) b.quote b.lots (given n))) is
            ∙ standing_lots n b e (cut_told no_worse share notice p) refl

        outcome_has : (n : ℕ) (o : Outcome) → outcome_told no_worse share notice p n ≡ Ok o → outcome_lots o ≡ given n
        outcome_has n o e = by_known (was_given p n) (sym (told_late true_outcome p.phase (was_given p n) late) ∙ e)
          where
            true_outcome : Outcome
            true_outcome = outcome_of no_worse share notice p n (bid_of n p.standing)

            by_known : (v : Bool) → cond v (Ok true_outcome) (Err NoSuchBid) ≡ Ok o → outcome_lots o ≡ given n
            by_known true k = let same : true_outcome ≡ o = cc in ap outcome_lots (sym same) ∙ outcome_lots_are n (bid_of n p.standing) refl
            by_known false k = absurd (both_ways true (ap is_err k) refl)

        pub decided : Decided no_worse share notice p limit
        decided =
            record {
              act = act;
              sum_told =
                  subst (λ o. up_to (lots_by no_worse share notice p.standing o) p.entered ≡ placed_by no_worse share notice p.standing o) (sym is)
                  (up_to_all p.entered p.standing (allotments no_worse share (terms_of notice) limit p.standing) c.bids.apart c.bids.numbers
                  (one_each no_worse share (terms_of notice) limit p.standing));
              none_withdrawn = none_withdrawn;
              allotment_is = λ n known. told_late (given n) p.phase (was_given p n) late ∙ ap (λ v. cond v (Ok (given n)) (Err NoSuchBid)) known;
              outcome_has = outcome_has;
              never_given = λ n unknown. (
                told_late (given n) p.phase (was_given p n) late ∙ ap (λ v. cond v (Ok (given n)) (Err NoSuchBid)) unknown,
                told_late (outcome_of no_worse share notice p n (bid_of n p.standing)) p.phase (was_given p n) late
                    ∙ ap (λ v. cond v (Ok (outcome_of no_worse share notice p n (bid_of n p.standing))) (Err NoSuchBid)) unknown,
              );
            }

  module _ (table : ℕ) where
    -- once decided, every event is refused
    pub late_refusal : (p : Past Q) → is_decided p.phase ≡ true → (one other : ℕ) (e : Event) → refusal read no_worse share notice table p one other e ≡ Some NotInThisState
    late_refusal p is one other e = first_led NotInThisState (grounds read notice table p one other e) (led e)
      where
        led : (e : Event) → LedBy NotInThisState (grounds read notice table p one other e)
        led (Entry e) = (ap not (decided_takes p.phase is).0, refl)
        led (Change e) = (ap not (decided_takes p.phase is).0, refl)
        led (Withdrawal e) = (ap not (decided_takes p.phase is).0, refl)
        led (Close second) = (ap not (decided_takes p.phase is).0, refl)
        led (Limit quote) = (ap not (decided_takes p.phase is).1, refl)

    pub late_stays : (p : Past Q) → is_decided p.phase ≡ true → (c : Call) → past_with read no_worse share notice table p c ≡ p
    late_stays p is (call.Put e one other) = ap (λ o. accepted_next o p (rules.next read notice table p e)) (late_refusal p is one other e)
    late_stays p is call.Count = refl
    late_stays p is call.Placed = refl
    late_stays p is call.CutOff = refl
    late_stays p is (call.Allotment n) = refl
    late_stays p is (call.Outcome n) = refl

    late_lasts : (calls : List Call) (p : Past Q) → is_decided p.phase ≡ true → past_after read no_worse share notice table p calls ≡ p
    late_lasts [] p is = refl
    late_lasts (c ∷ calls) p is =
        ap (λ q. past_after read no_worse share notice table q calls) (late_stays p is c) ∙ late_lasts calls p is

    -- the calls in two parts
    pub after_append : (before more : List Call) (p : Past Q)
        → past_after read no_worse share notice table p (before ++ more) ≡ past_after read no_worse share notice table (past_after read no_worse share notice table p before) more
    after_append [] more p = refl
    after_append (c ∷ before) more p = after_append before more (past_with read no_worse share notice table p c)

    pub moment : {number : Q → ℤ} {low high : ℤ} → Lawful number low high no_worse read
        → ((ds : List ℕ) (s : ℕ) → lots_fit ds s ≡ true → few ds ≡ true → Fair ds s (share ds s))
        → notice_fits notice ≡ true → (before : List Call) → Moment read no_worse share notice table before
    moment kind fair fits before =
        let p = past_after read no_worse share notice table opening_past before in
        let c = after_coherent read notice table fits no_worse share before opening_past at_opening in
        record {
          early = undecided p c;
          late = λ limit is. decided fits kind fair p c limit is;
          lasting = λ limit more is. after_append before more opening_past ∙ late_lasts more p (c.ended ∙ ap is_some is);
        }
