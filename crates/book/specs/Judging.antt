-- How a call is judged.
use Rattle.std.specs.Prelude.{◌≡◌, ℕ, Bool, not, ◌||◌, List, [], ◌∷◌, length, ℤ, is_some, Some, None, Option, Result, MatchResult, nat_lt}
use Rattle.terms.specs.Grounds.{Ground, when, first}
use Rattle.award.specs.Award.{Bid}
use Rattle.book.specs.declared.event.Event.{Event}
use Rattle.book.specs.declared.event.Event.TheVariants.{Limit}
use Rattle.book.specs.declared.fault.BookFault.{BookFault}
use Rattle.book.specs.declared.fault.BookFault.TheVariants.{NoSuchBid, OtherHouse, ShortTable}
use Rattle.book.specs.Table.{is_of, grounds}
use Rattle.book.specs.Sheets.{Sheet, past_of}
use Rattle.book.specs.Steps.{judged, effect}

-- the grounds but the first, which is the state
abbrev pub beyond_state : List (Ground BookFault) → List (Ground BookFault)
beyond_state [] = []
beyond_state (g ∷ gs) = gs

-- the fault of the first ground against an event that the book's state takes
abbrev pub against : {Q : Type 0} → (ℤ → Option Q) → ℕ → ℕ → Sheet Q → Event → Option BookFault
against read one other s e = first (beyond_state (grounds read s.notice (length s.rows) (past_of read s) one other e))

-- a judgement: the fault that is told, or without one what is needed to go on
abbrev pub Judgement : {A : Type 0} → Option BookFault → (A → Type 0) → Result A BookFault → Type 0
Judgement fault Needed r = MatchResult r (λ a. (fault ≡ None) × Needed a) (λ f. fault ≡ Some f)

-- the grounds against a house that names a bid
abbrev pub bid_grounds : {Q : Type 0} → ℕ → Option (Bid Q) → List (Ground BookFault)
bid_grounds house b = when (not (is_some b)) NoSuchBid ∷ when (not (is_of house b)) OtherHouse ∷ []

-- the ground against work tables of so many places, where so many bids were entered
abbrev pub table_grounds : ℕ → ℕ → ℕ → List (Ground BookFault)
table_grounds entered one other = when (nat_lt one entered || nat_lt other entered) ShortTable ∷ []

-- a limit that a closed book takes, with two work tables of so many places
abbrev pub awarded_by : {Q : Type 0} → (Q → ℤ) → (ℤ → Option Q) → (Q → Q → Bool) → (List ℕ → ℕ → List ℕ) → ℕ → ℕ → Sheet Q → ℤ → Sheet Q × Result ℕ BookFault
awarded_by number read no_worse share one other s quote =
    judged (against read one other s (Limit quote)) s (effect number read no_worse share s (Limit quote)) 0
