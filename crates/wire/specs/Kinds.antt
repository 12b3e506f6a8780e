-- The kinds of a message, and the number of each.
use Rattle.std.specs.Prelude.{◌≡◌, ℕ, ◌<◌, Result, MatchResult}
use Rattle.wire.specs.declared.fault.ReadFault.{ReadFault}
use Rattle.wire.specs.declared.fault.ReadFault.TheVariants.{WrongKind}
use Rattle.wire.specs.declared.kind.Kind.{Kind}
use Rattle.wire.specs.declared.kind.Kind.TheVariants.{Notice, Entry, Change, Withdrawal, Close, Limit}

-- The number of a kind.
abbrev pub number_of : Kind → ℕ
number_of Notice = 0
number_of Entry = 1
number_of Change = 2
number_of Withdrawal = 3
number_of Close = 4
number_of Limit = 5

-- A byte is the number of a kind, or above all of them.
abbrev pub Names : ℕ → Result Kind ReadFault → Type 0
Names b r = MatchResult r (λ k. number_of k ≡ b) (λ f. (f ≡ WrongKind) × (5 < b))
