-- What the accepted calls come to, and the table of refusals. Nothing here speaks of a book's rows or fields.
use Rattle.std.specs.Prelude.{ℕ, ◌+◌, min, Bool, true, false, cond, not, ◌&&◌, ◌||◌, List, [], ◌∷◌, ◌++◌, ℤ, is_some, Some, None, filter, Option, ◌==◌, nat_le, nat_lt}
use Rattle.std.specs.Str.{bytes_eq}
use Rattle.terms.specs.declared.notice.Notice.{Notice}
use Rattle.terms.specs.Grounds.{Ground, when}
use Rattle.terms.specs.Tests.{between}
use Rattle.award.specs.Award.{Bid}
use Rattle.book.specs.declared.event.Event.{Event}
use Rattle.book.specs.declared.event.Event.TheVariants.{Entry, Change, Withdrawal, Close, Limit}
use Rattle.book.specs.declared.fault.BookFault.{BookFault}
use Rattle.book.specs.declared.fault.BookFault.TheVariants.{NotInThisState, OtherSeries, HouseOutOfRange, QuoteOutOfRange, LotsOutOfRange, NoSuchBid, OtherHouse, SecondOutOfRange, NoRowLeft, NoPlaceLeft, ShortTable}

-- bids are taken; then the limit is awaited; then the act stands
pub data Phase : Type 0 where
  taking_bids : Phase
  awaiting_limit : Phase
  decided : Phase

abbrev pub takes_bids : Phase → Bool
takes_bids taking_bids = true
takes_bids awaiting_limit = false
takes_bids decided = false

abbrev pub awaits_limit : Phase → Bool
awaits_limit taking_bids = false
awaits_limit awaiting_limit = true
awaits_limit decided = false

abbrev pub is_decided : Phase → Bool
is_decided taking_bids = false
is_decided awaiting_limit = false
is_decided decided = true

-- what the accepted calls come to
pub record Past (Q : Type 0) : Type 0 where
  pub phase : Phase
  -- the standing bids, in the order of their arrival
  pub standing : List (Bid Q)
  -- the bids entered, the arrival places given and the last accepted second, which is 0 before the first
  pub entered : ℕ
  pub arrivals : ℕ
  pub last : ℕ
  -- the limit, once it is accepted
  pub limit : Option Q

-- each bid entered is given a number, and uses a row; neither is used again
abbrev pub numbers_given : {Q : Type 0} → Past Q → ℕ
numbers_given p = p.entered

abbrev pub rows_used : {Q : Type 0} → Past Q → ℕ
rows_used p = p.entered

-- a number was given
abbrev pub was_given : {Q : Type 0} → Past Q → ℕ → Bool
was_given p n = between 1 n (numbers_given p)

-- the bid that stands under a number
abbrev pub bid_of : {Q : Type 0} → ℕ → List (Bid Q) → Option (Bid Q)
bid_of n [] = None
bid_of n (b ∷ bids) = cond (b.number == n) (Some b) (bid_of n bids)

-- the bids but the one of a number
abbrev pub without : {Q : Type 0} → ℕ → List (Bid Q) → List (Bid Q)
without n bids = filter (λ b. not (b.number == n)) bids

-- one bid, if its quote is one
abbrev pub one_bid : {Q : Type 0} → ℕ → ℕ → ℕ → Option Q → List (Bid Q)
one_bid n house lots None = []
one_bid n house lots (Some q) = record { number = n; house = house; quote = q; lots = lots } ∷ []

-- a bid is a house's; where there is no bid, there is nothing to hold against the house
abbrev pub is_of : {Q : Type 0} → ℕ → Option (Bid Q) → Bool
is_of house None = true
is_of house (Some b) = b.house == house

-- at the opening
abbrev pub opening_past : {Q : Type 0} → Past Q
opening_past = record { phase = taking_bids; standing = []; entered = 0; arrivals = 0; last = 0; limit = None }

-- `read` is how the kind reads a number as a quote; `table` is how many rows the book is opened over
module _ {Q : Type 0} (read : ℤ → Option Q) (notice : Notice) (table : ℕ) where
  -- the rows that the book uses: at most 4,096
  abbrev pub rows_there : ℕ
  rows_there = min table 4_096

  -- a second at which bids are taken, and not before the last accepted one
  abbrev pub timely : Past Q → ℕ → Bool
  timely p second = between notice.opening second notice.closing && nat_le p.last second

  -- The table: the grounds against an event, in the order of their numbers; a limit comes with two work tables of so many places.
  abbrev pub grounds : Past Q → ℕ → ℕ → Event → List (Ground BookFault)
  grounds p one other (Entry e) =
      when (not (takes_bids p.phase)) NotInThisState
      ∷ when (not (bytes_eq e.series notice.series)) OtherSeries
      ∷ when (not (between 1 e.house 9_999)) HouseOutOfRange
      ∷ when (not (is_some (read e.quote))) QuoteOutOfRange
      ∷ when (not (between notice.minimum e.lots notice.offer)) LotsOutOfRange
      ∷ when (not (timely p e.second)) SecondOutOfRange
      ∷ when (nat_le rows_there (rows_used p)) NoRowLeft
      ∷ when (nat_le 1_000_000 p.arrivals) NoPlaceLeft
      ∷ []
  grounds p one other (Change e) =
      when (not (takes_bids p.phase)) NotInThisState
      ∷ when (not (between 1 e.house 9_999)) HouseOutOfRange
      ∷ when (not (is_some (read e.quote))) QuoteOutOfRange
      ∷ when (not (between notice.minimum e.lots notice.offer)) LotsOutOfRange
      ∷ when (not (is_some (bid_of e.number p.standing))) NoSuchBid
      ∷ when (not (is_of e.house (bid_of e.number p.standing))) OtherHouse
      ∷ when (not (timely p e.second)) SecondOutOfRange
      ∷ when (nat_le 1_000_000 p.arrivals) NoPlaceLeft
      ∷ []
  grounds p one other (Withdrawal e) =
      when (not (takes_bids p.phase)) NotInThisState
      ∷ when (not (between 1 e.house 9_999)) HouseOutOfRange
      ∷ when (not (is_some (bid_of e.number p.standing))) NoSuchBid
      ∷ when (not (is_of e.house (bid_of e.number p.standing))) OtherHouse
      ∷ when (not (timely p e.second)) SecondOutOfRange
      ∷ []
  grounds p one other (Close second) =
      when (not (takes_bids p.phase)) NotInThisState
      ∷ when (not (between notice.closing second 86_399)) SecondOutOfRange
      ∷ []
  grounds p one other (Limit quote) =
      when (not (awaits_limit p.phase)) NotInThisState
      ∷ when (not (is_some (read quote))) QuoteOutOfRange
      ∷ when (nat_lt one p.entered || nat_lt other p.entered) ShortTable
      ∷ []

  -- what an accepted event answers: an entry the bid's number, all others 0
  abbrev pub answer : Past Q → Event → ℕ
  answer p (Entry e) = numbers_given p + 1
  answer p (Change e) = 0
  answer p (Withdrawal e) = 0
  answer p (Close second) = 0
  answer p (Limit quote) = 0

  -- What an accepted event makes of what came before. An entry puts a bid last, under the next number; a change puts its bid last, with the
  -- new quote and lots; a withdrawal removes its bid; all else leaves the standing bids.
  abbrev pub next : Past Q → Event → Past Q
  next p (Entry e) =
      record {
        phase = p.phase;
        standing = p.standing ++ one_bid (numbers_given p + 1) e.house e.lots (read e.quote);
        entered = p.entered + 1;
        arrivals = p.arrivals + 1;
        last = e.second;
        limit = p.limit;
      }
  next p (Change e) =
      record {
        phase = p.phase;
        standing = without e.number p.standing ++ one_bid e.number e.house e.lots (read e.quote);
        entered = p.entered;
        arrivals = p.arrivals + 1;
        last = e.second;
        limit = p.limit;
      }
  next p (Withdrawal e) =
      record {
        phase = p.phase;
        standing = without e.number p.standing;
        entered = p.entered;
        arrivals = p.arrivals;
        last = e.second;
        limit = p.limit;
      }
  next p (Close second) =
      record {
        phase = awaiting_limit;
        standing = p.standing;
        entered = p.entered;
        arrivals = p.arrivals;
        last = p.last;
        limit = p.limit;
      }
  next p (Limit quote) =
      record {
        phase = decided;
        standing = p.standing;
        entered = p.entered;
        arrivals = p.arrivals;
        last = p.last;
        limit = read quote;
      }
