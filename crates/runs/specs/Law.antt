-- The law over every run of calls on a freshly opened book.
use Rattle.std.specs.Prelude.{◌≡◌, ℕ, zero, suc, ◌+◌, Bool, true, false, List, ◌++◌, ℤ, Some, None, Ok, Err, Option}
use Rattle.terms.specs.declared.notice.Notice.{Notice}
use Rattle.terms.specs.Notices.{notice_fits}
use Rattle.award.specs.Rivals.{Act}
use Rattle.book.specs.declared.fault.BookFault.TheVariants.{NotInThisState, NoSuchBid}
use Rattle.book.specs.declared.outcome.Outcome.{Outcome}
use Rattle.book.specs.Outcomes.{outcome_lots}
use Rattle.book.specs.Table.{Past, opening_past, numbers_given, was_given, bid_of}
use Rattle.book.specs.Questions.{terms_of, placed_told, cut_told, lots_told, allotment_told, outcome_told}
use Rattle.runs.specs.declared.call.Call.{Call}
use Rattle.runs.specs.Calls.{past_after}

-- the lots of the numbers 1 to n together
abbrev pub up_to : (ℕ → ℕ) → ℕ → ℕ
up_to lots zero = 0
up_to lots (suc n) = up_to lots n + lots (suc n)

module _ {Q : Type 0} (no_worse : Q → Q → Bool) (share : List ℕ → ℕ → List ℕ) (notice : Notice) where
  -- What holds while no limit is accepted: no cut-off, nothing placed, and allotments and outcomes are refused.
  pub record Undecided (p : Past Q) : Type 0 where
    pub no_cut : cut_told no_worse share notice p ≡ None
    pub nothing : placed_told no_worse share notice p ≡ 0
    pub no_allotment : (n : ℕ) → allotment_told no_worse share notice p n ≡ Err NotInThisState
    pub no_outcome : (n : ℕ) → outcome_told no_worse share notice p n ≡ Err NotInThisState

  -- What holds from the accepted limit on.
  pub record Decided (p : Past Q) (limit : Q) : Type 0 where
    -- what is told is an act on the standing bids: void exactly on its grounds, and otherwise not to be bettered by any rival
    pub act :
        Act no_worse (terms_of notice) limit p.standing (lots_told no_worse share notice p) (placed_told no_worse share notice p)
        (cut_told no_worse share notice p)
    -- the allotments of all the numbers given add up to the placed lots,
    pub sum_told : up_to (lots_told no_worse share notice p) (numbers_given p) ≡ placed_told no_worse share notice p
    -- and a number whose bid does not stand has none
    pub none_withdrawn : (n : ℕ) → bid_of n p.standing ≡ None → lots_told no_worse share notice p n ≡ 0
    -- the question for a number that was given is answered with these lots, and the outcome told has the same lots;
    pub allotment_is : (n : ℕ) → was_given p n ≡ true → allotment_told no_worse share notice p n ≡ Ok (lots_told no_worse share notice p n)
    pub outcome_has : (n : ℕ) (o : Outcome) → outcome_told no_worse share notice p n ≡ Ok o → outcome_lots o ≡ lots_told no_worse share notice p n
    -- for a number that was never given both are refused
    pub never_given :
        (n : ℕ) → was_given p n ≡ false
        → (allotment_told no_worse share notice p n ≡ Err NoSuchBid) × (outcome_told no_worse share notice p n ≡ Err NoSuchBid)

module _ {Q : Type 0} (read : ℤ → Option Q) (no_worse : Q → Q → Bool) (share : List ℕ → ℕ → List ℕ) (notice : Notice) (table : ℕ) where
  -- what the accepted ones of these calls come to, from the opening on
  abbrev pub come_to : List Call → Past Q
  come_to calls = past_after read no_worse share notice table opening_past calls

  -- At each moment of a run, with the calls `before` behind it:
  pub record Moment (before : List Call) : Type 0 where
    pub early : (come_to before).limit ≡ None → Undecided no_worse share notice (come_to before)
    pub late : (limit : Q) → (come_to before).limit ≡ Some limit → Decided no_worse share notice (come_to before) limit
    -- once a limit is accepted, no further call alters what the accepted calls come to, and so nothing that is told
    pub lasting : (limit : Q) (more : List Call) → (come_to before).limit ≡ Some limit → come_to (before ++ more) ≡ come_to before

-- whatever the notice, the count of rows and the calls
abbrev pub LawOverRuns : {Q : Type 0} → (ℤ → Option Q) → (Q → Q → Bool) → (List ℕ → ℕ → List ℕ) → Type 0
LawOverRuns read no_worse share =
    (notice : Notice) (table : ℕ) (before : List Call) → notice_fits notice ≡ true → Moment read no_worse share notice table before
