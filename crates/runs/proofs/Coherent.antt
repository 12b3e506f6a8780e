-- What always holds of what the accepted calls come to.
use Rattle.std.proofs.Common.{◌≡◌, ℕ, ◌+◌, ◌<◌, ◌≤◌, min, Bool, true, false, not, eqb, ◌≢◌, List, [], ◌∷◌, ◌++◌, length, ℤ, is_some, Some, None, Option, sym, refl, ◌∙◌, subst, arith}
use Rattle.std.specs.List.{AllByRecursion as All}
use Rattle.std.proofs.ByRecursion.{All-append, all_kept_by, All-weaker}
use Rattle.std.proofs.lemmas.List.{append-nil, length-append}
use Rattle.std.proofs.lemmas.Bool.{and_parts, both_ways, not-false, leb-false}
use Rattle.std.proofs.lemmas.Bool.Decides.{nat_tests}
use Rattle.terms.specs.declared.notice.Notice.{Notice}
use Rattle.terms.specs.Sharing.{demand_fits, most_demands}
use Rattle.terms.specs.Notices.{notice_fits, numbers_fit, series_fits}
use Rattle.terms.specs.Grounds.{first}
use Rattle.terms.specs.Tests.{between}
use Rattle.terms.proofs.Noticing.{offer_kept, minimum_kept}
use Rattle.award.specs.Award.{Bid}
use Rattle.award.specs.Rivals.{Apart}
use Rattle.book.specs.declared.event.Event.{Event}
use Rattle.book.specs.declared.event.Event.TheVariants.{Entry, Change, Withdrawal, Close, Limit}
use Rattle.book.specs.declared.fault.BookFault.{BookFault}
use Rattle.book.specs.Table.{Phase, taking_bids, awaiting_limit, decided, takes_bids, awaits_limit, is_decided, Past, opening_past, bid_of, without, one_bid, grounds, next}
use Rattle.runs.specs.declared.call.Call.{Call}
use Rattle.runs.specs.declared.call.Call.TheVariants as call
use Rattle.runs.specs.Calls.{accepted_next, refusal, past_with, past_after}
use Rattle.runs.proofs.Grounds.{some_is, first_none}
use Rattle.runs.proofs.Bids.{without_other, apart_without, apart_last, without_fewer, without_one, found_all}

-- bids under numbers of their own, of so many given, each with lots that can be awarded
pub record Orderly {Q : Type 0} (given : ℕ) (bids : List (Bid Q)) : Type 0 where
  pub apart : Apart bids
  pub numbers : All (λ b. (1 ≤ b.number) × (b.number ≤ given)) bids
  pub lots : All (λ b. demand_fits b.lots ≡ true) bids
  pub many : length bids ≤ given

pub record Coherent {Q : Type 0} (p : Past Q) : Type 0 where
  -- the standing bids are in order, and few were entered
  pub bids : Orderly p.entered p.standing
  pub few : p.entered ≤ most_demands
  -- there is a limit exactly if the act stands
  pub ended : is_decided p.phase ≡ is_some p.limit

pub at_opening : {Q : Type 0} → Coherent {Q = Q} opening_past
at_opening = record { bids = record { apart = tt; numbers = tt; lots = tt; many = omega arith }; few = omega arith; ended = refl }

-- lots that a notice admits can be awarded
pub lots_admitted : (n : Notice) (lots : ℕ) → notice_fits n ≡ true → between n.minimum lots n.offer ≡ true → demand_fits lots ≡ true
lots_admitted n lots fits e =
    let f = (and_parts (series_fits n.series) (numbers_fit n) fits).1 in
    let o : (1 ≤ n.offer) × (n.offer ≤ 1_000_000_000) = offer_kept n (sym f) in
    let m : (1 ≤ n.minimum) × (n.minimum ≤ n.offer) = minimum_kept n (sym f) in
    grind (arith, nat_tests)

-- a book that takes bids, or awaits the limit, is undecided; a decided one takes nothing
pub open_undecided : (ph : Phase) → takes_bids ph ≡ true → is_decided ph ≡ false
open_undecided taking_bids e = refl
open_undecided awaiting_limit e = refl
open_undecided decided e = absurd (both_ways false refl e)

pub awaiting_undecided : (ph : Phase) → awaits_limit ph ≡ true → is_decided ph ≡ false
awaiting_undecided taking_bids e = refl
awaiting_undecided awaiting_limit e = refl
awaiting_undecided decided e = absurd (both_ways false refl e)

pub decided_takes : (ph : Phase) → is_decided ph ≡ true → (takes_bids ph ≡ false) × (awaits_limit ph ≡ false)
decided_takes taking_bids e = absurd (both_ways false refl e)
decided_takes awaiting_limit e = absurd (both_ways false refl e)
decided_takes decided e = (refl, refl)

module _ {Q : Type 0} where
  -- one removed
  orderly_without : (n given : ℕ) (bids : List (Bid Q)) → Orderly given bids → Orderly given (without n bids)
  orderly_without n given bids o =
      record {
        apart = apart_without n bids o.apart;
        numbers = all_kept_by (λ b. not (eqb b.number n)) (λ b. (1 ≤ b.number) × (b.number ≤ given)) bids o.numbers;
        lots = all_kept_by (λ b. not (eqb b.number n)) (λ b. demand_fits b.lots ≡ true) bids o.lots;
        many = omega (arith, o.many, without_fewer n bids);
      }

  -- one put last
  orderly_last : (n house lots given : ℕ) (q : Option Q) (bids : List (Bid Q)) → Orderly given bids → All (λ b. b.number ≢ n) bids
      → (1 ≤ n) × (n ≤ given) → demand_fits lots ≡ true → length bids + 1 ≤ given → Orderly given (bids ++ one_bid n house lots q)
  orderly_last n house lots given None bids o other range fit room = subst (Orderly given) (sym (append-nil bids)) o
  orderly_last n house lots given (Some q) bids o other range fit room =
      let b : Bid Q = record { number = n; house = house; quote = q; lots = lots } in
      record {
        apart = apart_last bids b o.apart other;
        numbers = All-append (λ b. (1 ≤ b.number) × (b.number ≤ given)) bids (b ∷ []) o.numbers (range, tt);
        lots = All-append (λ b. demand_fits b.lots ≡ true) bids (b ∷ []) o.lots (fit, tt);
        many = omega (arith, length-append bids (b ∷ []));
      }

  -- one number more is given
  orderly_more : (given : ℕ) (bids : List (Bid Q)) → Orderly given bids → Orderly (given + 1) bids
  orderly_more given bids o =
      record {
        apart = o.apart;
        numbers = All-weaker (λ b. (1 ≤ b.number) × (b.number ≤ given)) (λ b. (1 ≤ b.number) × (b.number ≤ given + 1)) (λ b h. (h.0, omega (arith, h.1))) bids o.numbers;
        lots = o.lots;
        many = omega (arith, o.many);
      }

module _ {Q : Type 0} (read : ℤ → Option Q) (notice : Notice) (table : ℕ) (fits : notice_fits notice ≡ true) where
  -- an accepted event leaves it so
  next_coherent : (p : Past Q) → Coherent p → (one other : ℕ) (e : Event) → first (grounds read notice table p one other e) ≡ None
      → Coherent (next read notice table p e)
  next_coherent p c one other (Entry e) free =
      let f = first_none (grounds read notice table p one other (Entry e)) free in
      let room : p.entered < min table 4_096 = leb-false (min table 4_096) p.entered f.1.1.1.1.1.1.0 in
      let fit = lots_admitted notice e.lots fits (not-false (between notice.minimum e.lots notice.offer) f.1.1.1.1.0) in
      let new = All-weaker (λ b. (1 ≤ b.number) × (b.number ≤ p.entered)) (λ b. b.number ≢ p.entered + 1) (λ b h e. omega (arith, h.1)) p.standing c.bids.numbers in
      record {
        bids = orderly_last (p.entered + 1) e.house e.lots (p.entered + 1) (read e.quote) p.standing (orderly_more p.entered p.standing c.bids) new
            (omega arith, omega arith) fit (omega (arith, c.bids.many));
        few = omega arith;
        ended = c.ended;
      }
  next_coherent p c one other (Change e) free =
      let f = first_none (grounds read notice table p one other (Change e)) free in
      let stands = not-false (is_some (bid_of e.number p.standing)) f.1.1.1.1.0 in
      let fit = lots_admitted notice e.lots fits (not-false (between notice.minimum e.lots notice.offer) f.1.1.1.0) in
      let found = some_is (bid_of e.number p.standing) stands in
      let is = found_all (λ b. (1 ≤ b.number) × (b.number ≤ p.entered)) e.number found.0 p.standing c.bids.numbers found.1 in
      let range = subst (λ n. (1 ≤ n) × (n ≤ p.entered)) is.1 is.0 in
      record {
        bids = orderly_last e.number e.house e.lots p.entered (read e.quote) (without e.number p.standing) (orderly_without e.number p.entered p.standing c.bids)
            (without_other e.number p.standing) range fit (omega (arith, c.bids.many, without_one e.number p.standing stands));
        few = c.few;
        ended = c.ended;
      }
  next_coherent p c one other (Withdrawal e) free =
      record { bids = orderly_without e.number p.entered p.standing c.bids; few = c.few; ended = c.ended }
  next_coherent p c one other (Close second) free =
      let f = first_none (grounds read notice table p one other (Close second)) free in
      let open' = open_undecided p.phase (not-false (takes_bids p.phase) f.0) in
      record { bids = c.bids; few = c.few; ended = sym open' ∙ c.ended }
  next_coherent p c one other (Limit quote) free =
      let f = first_none (grounds read notice table p one other (Limit quote)) free in
      record { bids = c.bids; few = c.few; ended = sym (not-false (is_some (read quote)) f.1.0) }

  module _ (no_worse : Q → Q → Bool) (share : List ℕ → ℕ → List ℕ) where
    judged_coherent : (o : Option BookFault) (p after : Past Q) → Coherent p → (o ≡ None → Coherent after) → Coherent (accepted_next o p after)
    judged_coherent None p after c h = h refl
    judged_coherent (Some f) p after c h = c

    pub with_coherent : (p : Past Q) → Coherent p → (c : Call) → Coherent (past_with read no_worse share notice table p c)
    with_coherent p h (call.Put e one other) =
        judged_coherent (refusal read no_worse share notice table p one other e) p (next read notice table p e) h (λ free. next_coherent p h one other e free)
    with_coherent p h call.Count = h
    with_coherent p h call.Placed = h
    with_coherent p h call.CutOff = h
    with_coherent p h (call.Allotment n) = h
    with_coherent p h (call.Outcome n) = h

    -- at each moment of a run
    pub after_coherent : (calls : List Call) (p : Past Q) → Coherent p → Coherent (past_after read no_worse share notice table p calls)
    after_coherent [] p h = h
    after_coherent (c ∷ calls) p h = after_coherent calls (past_with read no_worse share notice table p c) (with_coherent p h c)
