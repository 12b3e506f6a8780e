-- Outcomes: the number of each, the lots that it tells, and which one a standing bid has.
use Rattle.std.specs.Prelude.{ℕ, Bool, false, cond, not, Some, None, Option, nat_lt}
use Rattle.book.specs.declared.outcome.Outcome.{Outcome}
use Rattle.book.specs.declared.outcome.Outcome.TheVariants.{Full, Part, Worse, Over, Out, Void}

abbrev pub outcome_number : Outcome → ℕ
outcome_number (Full x) = 1
outcome_number (Part x) = 2
outcome_number Worse = 3
outcome_number Over = 4
outcome_number Out = 5
outcome_number Void = 6

-- the lots of a bid with this outcome
abbrev pub outcome_lots : Outcome → ℕ
outcome_lots (Full x) = x
outcome_lots (Part x) = x
outcome_lots Worse = 0
outcome_lots Over = 0
outcome_lots Out = 0
outcome_lots Void = 0

-- a quote is past a limit
abbrev pub past_limit : {Q : Type 0} → (Q → Q → Bool) → Option Q → Q → Bool
past_limit no_worse None q = false
past_limit no_worse (Some l) q = not (no_worse q l)

-- the outcome of a standing bid with this quote, which asked for so many lots and got so many, by the limit and the cut-off:
-- the first that fits of VOID (without a cut-off), OVER, WORSE, PART and FULL
abbrev pub outcome_by : {Q : Type 0} → (Q → Q → Bool) → Option Q → Option Q → Q → ℕ → ℕ → Outcome
outcome_by no_worse limit None q asked got = Void
outcome_by no_worse limit (Some cut) q asked got =
    cond (past_limit no_worse limit q) Over (cond (not (no_worse q cut)) Worse (cond (nat_lt got asked) (Part got) (Full got)))
