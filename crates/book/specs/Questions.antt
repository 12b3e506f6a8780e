-- What the questions are answered, by the rules: from the notice and what the accepted calls come to.
use Rattle.std.specs.Prelude.{ℕ, Bool, not, List, [], ◌∷◌, length, Some, None, Ok, Err, sum, Option, Result}
use Rattle.terms.specs.declared.notice.Notice.{Notice}
use Rattle.terms.specs.Grounds.{Ground, when, first}
use Rattle.award.specs.Award.{Bid, Terms, cut_off, allotments}
use Rattle.award.specs.Rivals.{lots_of}
use Rattle.book.specs.declared.fault.BookFault.{BookFault}
use Rattle.book.specs.declared.fault.BookFault.TheVariants.{NotInThisState, NoSuchBid}
use Rattle.book.specs.declared.outcome.Outcome.{Outcome}
use Rattle.book.specs.declared.outcome.Outcome.TheVariants.{Out}
use Rattle.book.specs.Outcomes.{outcome_by}
use Rattle.book.specs.Table.{Phase, is_decided, Past, was_given, bid_of}

-- the answer to a question: refused by the first ground, or else this
abbrev pub told_unless : {A : Type 0} → Option BookFault → A → Result A BookFault
told_unless None x = Ok x
told_unless (Some f) x = Err f

-- the grounds against a question for a number: before the award, and for a number that was never given
abbrev pub number_grounds : Phase → Bool → List (Ground BookFault)
number_grounds phase known = when (not (is_decided phase)) NotInThisState ∷ when (not known) NoSuchBid ∷ []

-- what the award goes by
abbrev pub terms_of : Notice → Terms
terms_of n = record { offer = n.offer; least_number = n.least_number; least_placement = n.least_placement }

-- the count of standing bids
abbrev pub count_told : {Q : Type 0} → Past Q → ℕ
count_told p = length p.standing

module _ {Q : Type 0} (no_worse : Q → Q → Bool) (share : List ℕ → ℕ → List ℕ) (notice : Notice) where
  -- by the limit, once it is accepted: the cut-off, the placed lots, and the lots of a number
  abbrev pub cut_by : List (Bid Q) → Option Q → Option Q
  cut_by bids None = None
  cut_by bids (Some limit) = cut_off no_worse (terms_of notice) limit bids

  abbrev pub placed_by : List (Bid Q) → Option Q → ℕ
  placed_by bids None = 0
  placed_by bids (Some limit) = sum (allotments no_worse share (terms_of notice) limit bids)

  abbrev pub lots_by : List (Bid Q) → Option Q → ℕ → ℕ
  lots_by bids None n = 0
  lots_by bids (Some limit) n = lots_of bids (allotments no_worse share (terms_of notice) limit bids) n

  abbrev pub cut_told : Past Q → Option Q
  cut_told p = cut_by p.standing p.limit

  abbrev pub placed_told : Past Q → ℕ
  placed_told p = placed_by p.standing p.limit

  -- the lots of a number; a withdrawn bid has none
  abbrev pub lots_told : Past Q → ℕ → ℕ
  lots_told p n = lots_by p.standing p.limit n

  abbrev pub allotment_told : Past Q → ℕ → Result ℕ BookFault
  allotment_told p n = told_unless (first (number_grounds p.phase (was_given p n))) (lots_told p n)

  -- the outcome of a number: OUT where its bid does not stand any more
  abbrev pub outcome_of : Past Q → ℕ → Option (Bid Q) → Outcome
  outcome_of p n None = Out
  outcome_of p n (Some b) = outcome_by no_worse p.limit (cut_told p) b.quote b.lots (lots_told p n)

  abbrev pub outcome_told : Past Q → ℕ → Result Outcome BookFault
  outcome_told p n = told_unless (first (number_grounds p.phase (was_given p n))) (outcome_of p n (bid_of n p.standing))
