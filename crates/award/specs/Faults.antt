-- The number of a refusal, and the ground for it.
use Rattle.std.specs.Prelude.{ℕ, ◌||◌, List, [], ◌∷◌, Some, None, Ok, Err, Option, Result, nat_lt}
use Rattle.terms.specs.Grounds.{Ground, when}
use Rattle.award.specs.declared.fault.AwardFault.{AwardFault}
use Rattle.award.specs.declared.fault.AwardFault.TheVariants.{ShortTable}

-- 16: a work table shorter than the rows
abbrev pub award_fault_number : AwardFault → ℕ
award_fault_number ShortTable = 16

-- the ground against an award over so many rows, with two work tables of so many places
abbrev pub award_grounds : ℕ → ℕ → ℕ → List (Ground AwardFault)
award_grounds rows demands shares = when (nat_lt demands rows || nat_lt shares rows) ShortTable ∷ []

-- the answer of a call: the fault where a ground holds, and otherwise this value
abbrev pub answered : {A F : Type 0} → Option F → A → Result A F
answered None a = Ok a
answered (Some f) a = Err f
